-- THE TABLES SETTLE THEIR ANSWERS, for the verdict on the words and the model of spellings decide them: check's number and yes; propose's number, start,
-- count and every place of the list that it does not write.
use mathlib.Core.Path.{◌≡◌, refl, sym, ap, ◌∙◌, subst}
use mathlib.Core.Logic.{◌⊎◌, inl, inr}
use mathlib.Core.Bool.{Bool, true, false, cond}
use mathlib.Core.List.{List}
use mathlib.Core.Option.{Option, none, some}
use Prim.Native.Nat.{ℕ, ◌-◌, ◌≤◌, ◌<◌}
use lib.Dec.{T, leb}
use lib.ListN.{drop, length}
use lib.Seq.{drop_at}
use Rattle.model.specs.Answers.{ImageOf, refusal}
use Rattle.model.specs.Models.Spelling.{is_spelled, latest}
use Rattle.model.specs.Models.Verdict.{verdict}
use Rattle.model.specs.Spelling.{CheckSays, Judgement, Latest, no_end, no_room, not_an_image, Proposal, proposed, proposes, proposes_none, ProposeSays, right, says, Spelled, text_too_long, wrong}
use Rattle.model.specs.Tree.{Tree}
use Rattle.model.proofs.Answers.One.{one, one_answer}
use Rattle.model.proofs.Image.Decided.{by_verdict, on_image, on_other, rule_full}
use Rattle.model.proofs.Laws.Bool.{is_not, is_true, le_false, le_or_lt, le_true}
use Rattle.model.proofs.Spelling.Decided.{Found, latest_is, latest_none, latest_some, spelled_is}
use Rattle.model.proofs.Spelling.Ends.{spelled_end}
use Rattle.model.proofs.Words.Full.{Full}

-- ---- CHECK, computed
abbrev check_of : Option Tree → (text : List ℕ) (start end : ℕ) (states : List ℕ) → Judgement
check_of none text start end states = refusal false 6 tt
check_of (some t) text start end states = cond (leb (length text) 65535) (says (is_spelled t text start end states)) (refusal false 7 tt)

abbrev pub check_answer : (words text : List ℕ) (start end : ℕ) (states : List ℕ) → Judgement
check_answer words = check_of (verdict words)

module _ (words text : List ℕ) (start end : ℕ) (states : List ℕ) where
  abbrev Checks : Judgement → Type 0
  Checks = CheckSays words text start end states

  abbrev checks : Option Tree → Judgement
  checks o = check_of o text start end states

  gets_yes : (t : Tree) → Full t → Spelled t text start end states → is_spelled t text start end states ≡ true
  gets_yes t F s = is_true (is_spelled t text start end states) ((spelled_is t F text start end states).1 s)

  gets_no : (t : Tree) → Full t → (Spelled t text start end states → ⊥) → is_spelled t text start end states ≡ false
  gets_no t F f = is_not (is_spelled t text start end states) (λ h. f ((spelled_is t F text start end states).0 h))

  check_is : (a : Judgement) → Checks a → a ≡ check_answer words text start end states
  check_is a (not_an_image f e) = e ∙ sym (on_other checks f)
  check_is a (text_too_long t I l e) = e ∙ sym (on_image checks I ∙ rw (le_false (length text) 65535 l))
  check_is a (right t I l s e) = e ∙ sym (on_image checks I ∙ rw (le_true (length text) 65535 l, gets_yes t (rule_full t I.is_rule) s))
  check_is a (wrong t I l f e) = e ∙ sym (on_image checks I ∙ rw (le_true (length text) 65535 l, gets_no t (rule_full t I.is_rule) f))

  -- THE TABLE SAYS SOMETHING FOR EVERY PROPOSAL
  pub check_total : Checks (check_answer words text start end states)
  check_total = by_verdict words (λ n. not_an_image n (on_other checks n)) (λ t I. short t I (le_or_lt (length text) 65535))
    where
      Said : Type 0
      Said = Checks (check_answer words text start end states)

      tested : (t : Tree) → ImageOf words t → length text ≤ 65535 → (b : Bool) → is_spelled t text start end states ≡ b → Said
      tested t I l true e =
          right t I l ((spelled_is t (rule_full t I.is_rule) text start end states).0 (subst T (sym e) tt))
          (on_image checks I ∙ rw (le_true (length text) 65535 l, e))
      tested t I l false e =
          wrong t I l (λ s. subst T e ((spelled_is t (rule_full t I.is_rule) text start end states).1 s))
          (on_image checks I ∙ rw (le_true (length text) 65535 l, e))

      short : (t : Tree) → ImageOf words t → (length text ≤ 65535) ⊎ (65535 < length text) → Said
      short t I (inl l) = tested t I l (is_spelled t text start end states) refl
      short t I (inr l) = text_too_long t I l (on_image checks I ∙ rw (le_false (length text) 65535 l))

  -- TWO ANSWERS OF THE CHECKER TO ONE PROPOSAL ARE EQUAL
  pub check_one : (a b : Judgement) → Checks a → Checks b → a ≡ b
  check_one = one_answer check_is

-- ---- PROPOSE, computed: all but the states, which are free; of the lent list the places after them
abbrev pub settled : Proposal → Proposal
settled a = record { number = a.number; place = a.place; given = a.given; lent = drop a.given.count a.lent }

abbrev propose_at : Option ℕ → (end : ℕ) (before : List ℕ) → Proposal
propose_at none end before = proposes_none 16 before
propose_at (some start) end before =
    cond (leb (end - start) (length before)) (proposes start (end - start) (drop (end - start) before)) (proposes_none 17 before)

abbrev propose_of : Option Tree → (text : List ℕ) (end : ℕ) (before : List ℕ) → Proposal
propose_of none text end before = proposes_none 6 before
propose_of (some t) text end before = cond (leb (length text) 65535) (propose_at (latest t text end) end before) (proposes_none 7 before)

abbrev pub propose_answer : (words text : List ℕ) (end : ℕ) (before : List ℕ) → Proposal
propose_answer words = propose_of (verdict words)

module _ (words text : List ℕ) (end : ℕ) (before : List ℕ) where
  abbrev Proposes : Proposal → Type 0
  Proposes = ProposeSays words text end before

  abbrev answer : Option Tree → Proposal
  answer o = propose_of o text end before

  from : (t : Tree) → ImageOf words t → length text ≤ 65535 → {o : Option ℕ} → latest t text end ≡ o → propose_answer words text end before ≡ propose_at o end before
  from t I l e = on_image answer I ∙ rw (le_true (length text) 65535 l, e)

  propose_is : (a : Proposal) → Proposes a → settled a ≡ propose_answer words text end before
  propose_is a (not_an_image n e) = ap settled e ∙ sym (on_other answer n)
  propose_is a (text_too_long t I l e) = ap settled e ∙ sym (on_image answer I ∙ rw (le_false (length text) 65535 l))
  propose_is a (no_end t I l f e) =
      ap settled e ∙ sym (from t I l (latest_none t text end (rule_full t I.is_rule) (λ i rs s. f ((spelled_end t I.is_rule text end).0 (i, rs, s)))))
  propose_is a (no_room t i I l L r e) = ap settled e ∙ sym (from t I l (latest_some t text end (rule_full t I.is_rule) i L) ∙ rw (le_false (end - i) (length before) r))
  propose_is a (proposed t i rs I l L r s e) =
      ap settled e
      ∙ ap (proposes i (end - i)) (drop_at rs (drop (end - i) before) (end - i) s.each)
      ∙ sym (from t I l (latest_some t text end (rule_full t I.is_rule) i L) ∙ rw (le_true (end - i) (length before) r))

  -- THE TABLE SAYS SOMETHING FOR EVERY PLACE
  pub propose_total : (a : Proposal) × Proposes a
  propose_total = by_verdict words (λ n. (_, not_an_image n refl)) (λ t I. within t I (le_or_lt (length text) 65535))
    where
      roomy : (t : Tree) → ImageOf words t → length text ≤ 65535 → (i : ℕ) → Latest t text i end → (end - i ≤ length before) ⊎ (length before < end - i)
          → (a : Proposal) × Proposes a
      roomy t I l i L (inl h) = (_, proposed t i L.some.0 I l L h L.some.1 refl)
      roomy t I l i L (inr h) = (_, no_room t i I l L h refl)

      found : (t : Tree) → ImageOf words t → length text ≤ 65535 → (o : Option ℕ) → Found t text end o → (a : Proposal) × Proposes a
      found t I l none f = (_, no_end t I l (λ e. let s = (spelled_end t I.is_rule text end).1 e in f s.0 s.1 s.2) refl)
      found t I l (some i) L = roomy t I l i L (le_or_lt (end - i) (length before))

      within : (t : Tree) → ImageOf words t → (length text ≤ 65535) ⊎ (65535 < length text) → (a : Proposal) × Proposes a
      within t I (inl l) = found t I l (latest t text end) (latest_is t text end (rule_full t I.is_rule))
      within t I (inr l) = (_, text_too_long t I l refl)

  -- TWO ANSWERS OF THE PROPOSER TO ONE INPUT HAVE ONE NUMBER, START AND COUNT, AND WHAT IS NOT WRITTEN IS AS IT WAS IN BOTH
  pub propose_one : (a b : Proposal) → Proposes a → Proposes b → settled a ≡ settled b
  propose_one = one settled propose_is
