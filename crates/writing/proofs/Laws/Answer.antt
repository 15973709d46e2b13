-- THE READ-BACK TABLE, from the text that is the tree's writing: it fits, and is written, or it does not, and nothing is.
use mathlib.Core.Path.{◌≡◌, refl, sym, ap, ◌∙◌, subst}
use mathlib.Core.Logic.{◌⊎◌, inl, inr}
use mathlib.Core.List.{List}
use Prim.Native.Nat.{ℕ, ◌≤◌, ◌<◌}
use native.Mathlib.Omega.{arith}
use lib.Dec.{T}
use lib.ListN.{length}
use Rattle.model.specs.Answers.{done, gives, ImageOf, no_room, ReadBackSays, written}
use Rattle.model.specs.Models.Sections.{width_word}
use Rattle.model.specs.Tree.{Tree}
use Rattle.model.specs.Writing.{writing}
use Rattle.model.proofs.Image.Tokens.{length_tokens}
use Rattle.model.proofs.Laws.Bool.{le_false, le_or_lt, le_true}
use Rattle.model.proofs.Laws.Stores.{sets_fit}
use Rattle.answers.specs.Answers.{answered}
use Rattle.answers.specs.declared.Refusal.{Refusal}
use Rattle.std.specs.Prelude.{Result}
use Rattle.image_sections.specs.declared.Sections.{Sections}
use Rattle.tokens_masks.specs.Tapes.{is_tree}
use Rattle.tokens_masks.specs.declared.Tape.{Tape}
use Rattle.tokens_masks.proofs.OfTree.{is-tree}
use Rattle.image_check.proofs.Laws.Found.{Found}
use Rattle.writing.specs.Work.{bytes_after, OwnMarks, range_text, written_if}
use Rattle.writing.proofs.Laws.Plain.{all_written}

-- any text that is the tree's writing
of_text : (ws : List ℕ) (s : Tree) → ImageOf ws s → (before text : List ℕ) → text ≡ writing s → ReadBackSays ws before (answered (written_if text before) (bytes_after text before))
of_text ws s I before text q = go (le_or_lt (length text) (length before))
  where
    long : length text ≡ length (writing s)
    long = ap length q

    go : (length text ≤ length before) ⊎ (length before < length text) → ReadBackSays ws before (answered (written_if text before) (bytes_after text before))
    go (inl h) =
        rw (le_true (length text) (length before) h)
        (written s I (omega (arith, long)) (ap (λ (l : List ℕ). gives (length text) l) (sets_fit before text) ∙ ap (λ (x : List ℕ). done x before) q))
    go (inr h) = rw (le_false (length text) (length before) h) (no_room s I (omega (arith, long)) refl)

-- what `own_marks` and `write` ask, and what `write` answers
module _ {ws : List ℕ} {p : Sections} {t : Tape} (F : Found ws p t) where
  abbrev I : ImageOf ws F.tree
  I = F.image_of

  pub found_tree : T (is_tree t)
  found_tree =
      is-tree F.tree t (record { rule = I.rule; is_rule = I.is_rule; few = I.few; shallow = I.shallow; tape = F.tape-of })

  -- u has the unions' own marks
  module _ (u : Tape) (M : OwnMarks t u) where
    pub asked : u.length < p.states
    asked = omega (arith, M.long, F.tape-of.long, length_tokens F.tree, ap (λ (q : Sections). q.states) F.sections_are)

    abbrev text : ℕ → List ℕ
    text W = range_text ws W u.kinds u.length 0

    width_is : p.width ≡ width_word ws
    width_is = ap (λ (q : Sections). q.width) F.sections_are ∙ sym (ap width_word I.laid)

    says : length u.kinds ≡ 512 → (before after : List ℕ) (r : Result ℕ Refusal)
        → r ≡ written_if (text p.width) before → after ≡ bytes_after (text p.width) before → ReadBackSays ws before (answered r after)
    says room before after r e a =
        subst (λ (q : Result ℕ Refusal). ReadBackSays ws before (answered q after)) (sym e)
        (subst (λ (l : List ℕ). ReadBackSays ws before (answered (written_if (text p.width) before) l)) (sym a)
        (of_text ws F.tree I before (text p.width)
        (ap text width_is ∙ all_written ws F.tree I t u F.tape-of M room)))

    -- of the words that the check hands on, which are those that were asked
    pub says_found : {now : List ℕ} → now ≡ ws → length u.kinds ≡ 512 → (before after : List ℕ) (r : Result ℕ Refusal)
        → r ≡ written_if (range_text now p.width u.kinds u.length 0) before → after ≡ bytes_after (range_text now p.width u.kinds u.length 0) before
        → ReadBackSays ws before (answered r after)
    says_found q room before after r e a =
        let text-of = λ (ys : List ℕ). range_text ys p.width u.kinds u.length 0 in
        says room before after r (e ∙ ap (λ (ys : List ℕ). written_if (text-of ys) before) q) (a ∙ ap (λ (ys : List ℕ). bytes_after (text-of ys) before) q)
