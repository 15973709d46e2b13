-- THE DEMANDS OF DOCUMENT 01, OVER THE CONTRACTS of build, read_back and match_ends: what their answers are to each other. They hold because each
-- table gives one answer to an input, an image has one tree, and so has a plain writing.
use mathlib.Core.Path.{◌≡◌, refl, sym, ap, ◌∙◌, subst}
use mathlib.Core.Logic.{◌↔◌}
use mathlib.Core.List.{List}
use Prim.Native.Nat.{ℕ, ◌≤◌}
use native.Mathlib.Omega.{arith}
use lib.ListN.{length, take}
use Rattle.std.specs.Prelude.{Err, Ok, Result}
use Rattle.model.specs.Answers.{BuildSays, built, Counted, done, ImageOf, matched, MatchSays, NoImage, ReadBackSays, written}
use Rattle.model.specs.Before.{ImageBefore, rewritten}
use Rattle.model.specs.Edges.{depth, states}
use Rattle.model.specs.Ends.{EndsAre}
use Rattle.model.specs.Grammar.{IsRule}
use Rattle.model.specs.Image.{image}
use Rattle.model.specs.Place.{PlaceIs}
use Rattle.model.specs.Tree.{Tree}
use Rattle.model.specs.Writing.{writing, written_by}
use Rattle.model.proofs.Answers.Before.{still_image, written_now}
use Rattle.model.proofs.Answers.Build.{build_one}
use Rattle.model.proofs.Answers.Match.{match_one}
use Rattle.model.proofs.Answers.ReadBack.{read_back_one}
use Rattle.model.proofs.Answers.RoundTrip as tables
use Rattle.model.proofs.Words.Run.{Bytes}
use Rattle.answers.specs.Answers.{answered, number_in, place_in}
use Rattle.answers.specs.declared.Refusal.{Refusal}
use Rattle.answers.specs.declared.Refusal.TheVariants.{NotAnImage, NotARule}
use Rattle.answers.proofs.Apart.{answered_apart}

-- ---- DEMAND 1: WHAT IS GIVEN AND LENT SETTLES THE ANSWER and what was lent afterwards; so each refusal comes exactly when its row holds
pub one_built : {rule before after later : List ℕ} (r q : Result ℕ Refusal) → BuildSays rule before (answered r after) → BuildSays rule before (answered q later)
    → (r ≡ q) × (after ≡ later)
one_built {rule} {before} {after} {later} r q B C = answered_apart r q (build_one rule before (answered r after) (answered q later) B C)

pub one_written : {words before after later : List ℕ} (r q : Result ℕ Refusal) → ReadBackSays words before (answered r after)
    → ReadBackSays words before (answered q later) → (r ≡ q) × (after ≡ later)
one_written {words} {before} {after} {later} r q B C = answered_apart r q (read_back_one words before (answered r after) (answered q later) B C)

pub one_matched : {words text before after later : List ℕ} (r q : Result ℕ Refusal) → Bytes text → MatchSays words text before (answered r after)
    → MatchSays words text before (answered q later) → (r ≡ q) × (after ≡ later)
one_matched {words} {text} {before} {after} {later} r q Y B C = answered_apart r q (match_one words text before (answered r after) (answered q later) Y B C)

-- ---- DEMAND 2: a rule is accepted exactly when it is in the grammar, the limits and the room
pub record Acceptable (rule before : List ℕ) (t : Tree) : Type 0 where
  pub short : length rule ≤ 1024
  pub is_rule : IsRule rule t
  pub few : states t ≤ 512
  pub shallow : depth t ≤ 8
  pub room : length (image t) ≤ length before

pub accepts : {rule before : List ℕ} (r : Result ℕ Refusal) (after : List ℕ) → BuildSays rule before (answered r after)
    → ((n : ℕ) × (r ≡ Ok n)) ↔ ((t : Tree) × Acceptable rule before t)
accepts {rule} {before} r after B = (λ d. taken (ap number_in d.1) B, λ a. done_by a.0 a.1)
  where
    taken : {a : Counted} → a.number ≡ 0 → BuildSays rule before a → (t : Tree) × Acceptable rule before t
    taken z (BuildSays.rule_too_long l e) = absurd (omega (arith, ap (λ (x : Counted). x.number) e))
    taken z (BuildSays.not_a_rule p l f P e) = absurd (omega (arith, ap (λ (x : Counted). x.number) e))
    taken z (BuildSays.too_many_states u l d m e) = absurd (omega (arith, ap (λ (x : Counted). x.number) e))
    taken z (BuildSays.too_deep u l d m k e) = absurd (omega (arith, ap (λ (x : Counted). x.number) e))
    taken z (BuildSays.no_room u l d m k n e) = absurd (omega (arith, ap (λ (x : Counted). x.number) e))
    taken z (built u l d m k n e) = (u, record { short = l; is_rule = d; few = m; shallow = k; room = n })

    done_by : (t : Tree) → Acceptable rule before t → (n : ℕ) × (r ≡ Ok n)
    done_by t A =
        let C : BuildSays rule before (answered (Ok (length (image t))) (done (image t) before).lent) =
        built t A.short A.is_rule A.few A.shallow A.room refl in
        (length (image t), (one_built r (Ok (length (image t))) B C).0)

-- document 02, Wish 2: it is refused with 2 exactly when it is not in the grammar, and then with its place
pub record WentWrong (rule : List ℕ) (p : ℕ) : Type 0 where
  pub short : length rule ≤ 1024
  pub no_rule : (t : Tree) → IsRule rule t → ⊥
  pub place : PlaceIs rule p

pub goes_wrong : {rule before : List ℕ} (r : Result ℕ Refusal) (after : List ℕ) → BuildSays rule before (answered r after)
    → (p : ℕ) → (r ≡ Err (NotARule p)) ↔ WentWrong rule p
goes_wrong {rule} {before} r after B p = (λ e. wrong B (ap number_in e) (ap place_in e), λ W. (one_built r (Err (NotARule p)) B (refusal W)).0)
  where
    refusal : WentWrong rule p → BuildSays rule before (answered (Err (NotARule p)) before)
    refusal W = BuildSays.not_a_rule p W.short W.no_rule W.place refl

    wrong : {a : Counted} → BuildSays rule before a → a.number ≡ 2 → a.place ≡ p → WentWrong rule p
    wrong (BuildSays.rule_too_long l e) z k = absurd (omega (arith, z, ap (λ (x : Counted). x.number) e))
    wrong (BuildSays.not_a_rule q l f P e) z k = record { short = l; no_rule = f; place = subst (PlaceIs rule) (sym (ap (λ (x : Counted). x.place) e) ∙ k) P }
    wrong (BuildSays.too_many_states t l d m e) z k = absurd (omega (arith, z, ap (λ (x : Counted). x.number) e))
    wrong (BuildSays.too_deep t l d m h e) z k = absurd (omega (arith, z, ap (λ (x : Counted). x.number) e))
    wrong (BuildSays.no_room t l d m h n e) z k = absurd (omega (arith, z, ap (λ (x : Counted). x.number) e))
    wrong (built t l d m h n e) z k = absurd (omega (arith, z, ap (λ (x : Counted). x.number) e))

module _ {rule before after : List ℕ} {n : ℕ} (B : BuildSays rule before (answered (Ok n) after)) (t : Tree) (d : IsRule rule t) where
  -- its image is the masks that document 01 lays down: the words that build wrote are the image of the rule's tree
  pub image_built : ImageOf (take n after) t
  image_built = tables.accepted rule before (answered (Ok n) after) B refl t d

  -- run over a journal, the image reports exactly the places where a stretch spelled by the rule ends, rising, as far as the list reaches, with the true total
  pub ends_reported : {text room later : List ℕ} (r : Result ℕ Refusal) → Bytes text → length text ≤ 65535 → MatchSays (take n after) text room (answered r later)
      → (ends : List ℕ) → EndsAre t text ends → (r ≡ Ok (length ends)) × (later ≡ (done ends room).lent)
  ends_reported {text} {room} r Y l M ends E =
      let N : MatchSays (take n after) text room (answered (Ok (length ends)) (done ends room).lent) = matched t ends image_built l E refl in
      one_matched r (Ok (length ends)) Y M N

  -- ---- DEMAND 3: the image of an accepted rule reads back as its plain writing, byte for byte
  pub reads_back : {room later : List ℕ} (r : Result ℕ Refusal) → length (writing t) ≤ length room → ReadBackSays (take n after) room (answered r later)
      → (r ≡ Ok (length (writing t))) × (later ≡ (done (writing t) room).lent)
  reads_back {room} r l R =
      let S : ReadBackSays (take n after) room (answered (Ok (length (writing t))) (done (writing t) room).lent) = written t image_built l refl in
      one_written r (Ok (length (writing t))) R S

-- document 02, Wish 4: "An image made before this change stays an image, but of that other class, and read back shows it so": an image of a tree when `.`
-- was every byte is one of that tree, and is read back with `[\x00-\xFF]` where the writing had `.`
module _ {words : List ℕ} (t : Tree) (I : ImageBefore words t) where
  pub stays_image : ImageOf words t
  stays_image = (still_image words t).0 I

  pub shows_other_class : {room later : List ℕ} (r : Result ℕ Refusal) → length (writing t) ≤ length room → ReadBackSays words room (answered r later)
      → (r ≡ Ok (length (written_by rewritten t))) × (later ≡ (done (written_by rewritten t) room).lent)
  shows_other_class {room} {later} r l R =
      let S : ReadBackSays words room (answered (Ok (length (writing t))) (done (writing t) room).lent) = written t stays_image l refl in
      subst (λ (w : List ℕ). (r ≡ Ok (length w)) × (later ≡ (done w room).lent)) (written_now t) (one_written r (Ok (length (writing t))) R S)

-- two rules have the same image exactly when they have the same plain writing
pub same_image : {rule rule' before before' after after' : List ℕ} {n n' : ℕ} → BuildSays rule before (answered (Ok n) after)
    → BuildSays rule' before' (answered (Ok n') after') → (t t' : Tree) → IsRule rule t → IsRule rule' t'
    → (take n after ≡ take n' after') ↔ (writing t ≡ writing t')
same_image {rule} {rule'} {before} {before'} {after} {after'} {n} {n'} B C t t' d d' =
    tables.same_image rule rule' before before' (answered (Ok n) after) (answered (Ok n') after') t t' d d' B refl C refl

-- words that are no tree's image are refused by reader and matcher alike
pub reader_refuses : {words before : List ℕ} (r : Result ℕ Refusal) (after : List ℕ) → ReadBackSays words before (answered r after)
    → (r ≡ Err NotAnImage) ↔ NoImage words
reader_refuses {words} {before} r after R = (λ e. refused_by R (ap number_in e), λ n. (one_written r (Err NotAnImage) R (refusal n)).0)
  where
    refusal : NoImage words → ReadBackSays words before (answered (Err NotAnImage) before)
    refusal n = ReadBackSays.not_an_image n refl

    refused_by : {a : Counted} → ReadBackSays words before a → a.number ≡ 6 → NoImage words
    refused_by (ReadBackSays.not_an_image n e) z = n
    refused_by (ReadBackSays.no_room t i l e) z = absurd (omega (arith, ap (λ (x : Counted). x.number) e))
    refused_by (written t i l e) z = absurd (omega (arith, ap (λ (x : Counted). x.number) e))

pub matcher_refuses : {words text before : List ℕ} (r : Result ℕ Refusal) (after : List ℕ) → Bytes text → MatchSays words text before (answered r after)
    → (r ≡ Err NotAnImage) ↔ NoImage words
matcher_refuses {words} {text} {before} r after Y M = (λ e. refused_by M (ap number_in e), λ n. (one_matched r (Err NotAnImage) Y M (refusal n)).0)
  where
    refusal : NoImage words → MatchSays words text before (answered (Err NotAnImage) before)
    refusal n = MatchSays.not_an_image n refl

    refused_by : {a : Counted} → MatchSays words text before a → a.number ≡ 6 → NoImage words
    refused_by (MatchSays.not_an_image n e) z = n
    refused_by (MatchSays.text_too_long t i l e) z = absurd (omega (arith, ap (λ (x : Counted). x.number) e))
    refused_by (matched t ends i l E e) z = absurd (omega (arith, ap (λ (x : Counted). x.number) e))
