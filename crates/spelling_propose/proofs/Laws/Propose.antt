-- THE ROWS OF THE PROPOSER'S TABLE.
use mathlib.Core.Path.{◌≡◌, refl, sym, ap, ◌∙◌, subst}
use mathlib.Core.Logic.{◌⊎◌, inl, inr}
use Rattle.std.specs.Prelude.{Err, None, Option, Result, Some}
use Rattle.std.specs.Option.{ok_or}
use Rattle.answers.specs.declared.Refusal.{Refusal}
use mathlib.Core.List.{List, ◌++◌}
use Prim.Native.Nat.{ℕ, ◌-◌, ◌≤◌, ◌<◌}
use native.Mathlib.Omega.{arith}
use lib.ListN.{length, take, take-append-drop}
use lib.Seq.{length-take-le}
use Rattle.model.specs.Answers.{ImageOf}
use Rattle.model.specs.Tree.{Tree}
use Rattle.model.proofs.Laws.Bool.{le_or_lt}
use Rattle.model.specs.Models.Leads.{Leads}
use Rattle.model.specs.Spelling.{between, Latest, no_end, no_room, Proposal, proposed, proposes, proposes_none, ProposeSays, Spelled}
use Rattle.model.proofs.Spelling.Ends.{spelled_end, spelled_leads}
use Rattle.image_sections.specs.declared.image.Image.{Image}
use Rattle.image_check.specs.Says.{CheckSays}
use Rattle.image_check.specs.declared.Checked.{Checked}
use Rattle.image_check.proofs.Laws.Found.{words_found}
use Rattle.spelling_propose.specs.Work.{Asked, ProposeAsks, StartSays, WriteSays}

-- what is refused where there is none is the refusal that was given for it
pub passed_on : {A : Type 0} {o : Option A} {x given : Refusal} → o ≡ None → Err x ≡ ok_or o given → x ≡ given
passed_on {A} {o} {x} {given} e v = its (rw e at v)
  where
    its : ◌≡◌ {A = Result A Refusal} (Err x) (Err given) → x ≡ given
    its z = cc

-- the edges are of the words that were checked
pub its_words : {words : List ℕ} {r : Option Checked} {c : Checked} {i : Image} → CheckSays words r → r ≡ Some c → i ≡ c.image → i.words.now ≡ words
its_words {words} C g e = ap (λ (x : Image). x.words.now) e ∙ words_found words C g

-- an end lies in the text
pub past_text : (words text : List ℕ) (end : ℕ) (before : List ℕ) (t : Tree) → ImageOf words t → length text ≤ 65535 → length text < end
    → ProposeSays words text end before (proposes_none 16 before)
past_text words text end before t I short h =
    no_end t I short (λ e. let s = (spelled_end t I.is_rule text end).1 e in omega (arith, s.2.inside)) refl

-- what the search and the writing ask
pub asked : {words text : List ℕ} {end : ℕ} → ProposeAsks words text end → Asked text end
asked A = record { inside = A.inside; short = A.short }

module _ {words text : List ℕ} {end : ℕ} (A : ProposeAsks words text end) (before : List ℕ) where
  abbrev t : Tree
  t = A.tree

  abbrev I : ImageOf words t
  I = A.image_of

  abbrev Says : Proposal → Type 0
  Says = ProposeSays words text end before

  module _ {kept : List (List ℕ)} {r : Option ℕ} (S : StartSays words text end kept r) where
    pub nowhere : r ≡ None → Says (proposes_none 16 before)
    nowhere e = no_end t I A.short (λ d. go (subst (StartSays words text end kept) e S) ((spelled_end t I.is_rule text end).1 d)) refl
      where
        go : StartSays words text end kept None → (start : ℕ) × (states : List ℕ) × Spelled t text start end states → ⊥
        go N (i, rs, s) = let l = (spelled_leads t text i end).0 (rs, s) in N.starts t I i l.1 l.2

    module _ {start : ℕ} (e : r ≡ Some start) where
      at : StartSays words text end kept (Some start)
      at = subst (StartSays words text end kept) e S

      pub ordered : start ≤ end
      ordered = at.within

      latest : Latest t text start end
      latest = record {
        some = (spelled_leads t text start end).1 (A.inside, at.within, (at.starts t I).0);
        none_later = λ j rs s. go j ((spelled_leads t text j end).0 (rs, s)) (le_or_lt j start);
      }
        where
          go : (j : ℕ) → (end ≤ length text) × (j ≤ end) × Leads t (between text j end) 0 → (j ≤ start) ⊎ (start < j) → j ≤ start
          go j l (inl h) = h
          go j l (inr h) = absurd ((at.starts t I).1 j h l.1 l.2)

      pub too_short : length before < end - start → Says (proposes_none 17 before)
      too_short h = no_room t start I A.short latest h refl

      pub written : end - start ≤ length before → {after : List ℕ} → WriteSays words text start end kept before after
          → Says (proposes start (end - start) after)
      written h {after} W =
          proposed t start (take (end - start) after) I A.short latest h
          (record {
            inside = A.inside;
            ordered = at.within;
            each = length-take-le (end - start) after (omega (arith, W.long));
            follow = W.follows t I (at.starts t I).2 (at.starts t I).0;
          })
          (ap (proposes start (end - start))
          (sym (take-append-drop (end - start) after) ∙ ap (λ (l : List ℕ). take (end - start) after ++ l) W.rest))
