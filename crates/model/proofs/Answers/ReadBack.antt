-- Read back's table gives any words and any lent room exactly one answer: the one that the verdict on the words decides.
use mathlib.Core.Path.{◌≡◌, sym, ◌∙◌}
use mathlib.Core.Logic.{◌⊎◌, inl, inr}
use mathlib.Core.Bool.{cond}
use mathlib.Core.List.{List}
use mathlib.Core.Option.{Option, none, some}
use Prim.Native.Nat.{ℕ, ◌≤◌, ◌<◌}
use lib.Dec.{leb}
use lib.ListN.{length}
use Rattle.model.specs.Tree.{Tree}
use Rattle.model.specs.Writing.{writing}
use Rattle.model.specs.Answers.{Counted, done, ImageOf, no_room, not_an_image, ReadBackSays, refused, written}
use Rattle.model.specs.Models.Verdict.{verdict}
use Rattle.model.proofs.Answers.One.{one_answer}
use Rattle.model.proofs.Image.Decided.{by_verdict, on_image, on_other}
use Rattle.model.proofs.Laws.Bool.{le_false, le_or_lt, le_true}

-- ---- the answer, computed
abbrev writing_answer : Option Tree → List ℕ → Counted
writing_answer none before = refused 6 before
writing_answer (some t) before = cond (leb (length (writing t)) (length before)) (done (writing t) before) (refused 8 before)

abbrev pub read_back_answer : List ℕ → List ℕ → Counted
read_back_answer words before = writing_answer (verdict words) before

-- ---- what the table says is that answer
module _ (words before : List ℕ) where
  abbrev by : Option Tree → Counted
  by o = writing_answer o before

  read_back_is : (a : Counted) → ReadBackSays words before a → a ≡ read_back_answer words before
  read_back_is a (not_an_image n e) = e ∙ sym (on_other by n)
  read_back_is a (no_room t i l e) = e ∙ sym (on_image by i ∙ rw (le_false (length (writing t)) (length before) l))
  read_back_is a (written t i l e) = e ∙ sym (on_image by i ∙ rw (le_true (length (writing t)) (length before) l))

  -- THE TABLE SAYS SOMETHING FOR EVERY INPUT
  pub read_back_total : ReadBackSays words before (read_back_answer words before)
  read_back_total = by_verdict words (λ n. not_an_image n (on_other by n)) (λ t i. roomy t i (le_or_lt (length (writing t)) (length before)))
    where
      roomy : (t : Tree) → ImageOf words t → (length (writing t) ≤ length before) ⊎ (length before < length (writing t))
          → ReadBackSays words before (read_back_answer words before)
      roomy t i (inl l) = written t i l (on_image by i ∙ rw (le_true (length (writing t)) (length before) l))
      roomy t i (inr l) = no_room t i l (on_image by i ∙ rw (le_false (length (writing t)) (length before) l))

-- TWO ANSWERS THAT MEET READ BACK'S TABLE FOR ONE INPUT ARE EQUAL
pub read_back_one : (words before : List ℕ) (a b : Counted) → ReadBackSays words before a → ReadBackSays words before b → a ≡ b
read_back_one words before = one_answer (read_back_is words before)
