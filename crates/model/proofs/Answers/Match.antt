-- Match's table gives any words, any text of bytes and any lent room exactly one answer: the one that the verdict on the words and the
-- list of ends decide.
use mathlib.Core.Path.{◌≡◌, sym, ap, ◌∙◌}
use mathlib.Core.Logic.{◌⊎◌, inl, inr}
use mathlib.Core.Bool.{cond}
use mathlib.Core.List.{List}
use mathlib.Core.Option.{Option, none, some}
use Prim.Native.Nat.{ℕ, ◌≤◌, ◌<◌}
use lib.Dec.{leb}
use lib.ListN.{length}
use Rattle.model.specs.Tree.{Tree}
use Rattle.model.specs.Answers.{Counted, done, ImageOf, matched, MatchSays, not_an_image, refused, text_too_long}
use Rattle.model.specs.Models.Verdict.{verdict}
use Rattle.model.proofs.Answers.One.{one_answer}
use Rattle.model.proofs.Definitions.EndsList.{ends_one}
use Rattle.model.proofs.Definitions.TreeEnds.{tree-ends, tree_ends}
use Rattle.model.proofs.Image.Decided.{by_verdict, on_image, on_other, rule_full}
use Rattle.model.proofs.Laws.Bool.{le_false, le_or_lt, le_true}
use Rattle.model.proofs.Words.Run.{Bytes}

-- ---- the answer, computed
abbrev ends_answer : Option Tree → List ℕ → List ℕ → Counted
ends_answer none text before = refused 6 before
ends_answer (some t) text before = cond (leb (length text) 65535) (done (tree_ends t text) before) (refused 7 before)

abbrev pub match_answer : List ℕ → List ℕ → List ℕ → Counted
match_answer words text before = ends_answer (verdict words) text before

-- ---- what the table says is that answer
module _ (words text before : List ℕ) (B : Bytes text) where
  abbrev by : Option Tree → Counted
  by o = ends_answer o text before

  match_is : (a : Counted) → MatchSays words text before a → a ≡ match_answer words text before
  match_is a (not_an_image n e) = e ∙ sym (on_other by n)
  match_is a (text_too_long t i l e) = e ∙ sym (on_image by i ∙ rw (le_false (length text) 65535 l))
  match_is a (matched t ends i l E e) =
      e ∙ ap (λ (ps : List ℕ). done ps before) (ends_one t text ends (tree_ends t text) E (tree-ends t (rule_full t i.is_rule) text B))
      ∙ sym (on_image by i ∙ rw (le_true (length text) 65535 l))

  -- THE TABLE SAYS SOMETHING FOR EVERY INPUT
  pub match_total : MatchSays words text before (match_answer words text before)
  match_total = by_verdict words (λ n. not_an_image n (on_other by n)) (λ t i. short t i (le_or_lt (length text) 65535))
    where
      short : (t : Tree) → ImageOf words t → (length text ≤ 65535) ⊎ (65535 < length text) → MatchSays words text before (match_answer words text before)
      short t i (inl l) = matched t (tree_ends t text) i l (tree-ends t (rule_full t i.is_rule) text B) (on_image by i ∙ rw (le_true (length text) 65535 l))
      short t i (inr l) = text_too_long t i l (on_image by i ∙ rw (le_false (length text) 65535 l))

-- TWO ANSWERS THAT MEET MATCH'S TABLE FOR ONE INPUT ARE EQUAL
pub match_one : (words text before : List ℕ) (a b : Counted) → Bytes text → MatchSays words text before a → MatchSays words text before b → a ≡ b
match_one words text before a b B = one_answer (match_is words text before B) a b
