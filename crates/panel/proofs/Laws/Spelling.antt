-- A PROPOSAL'S COUNT FITS, for its stretch lies in a text of at most 65,535 bytes; and its start is the end less the count. So the number given to C tells all
-- that is settled: number, count and start.
use mathlib.Core.Path.{◌≡◌, sym, ap, ◌∙◌}
use mathlib.Core.Bool.{Bool, true, false}
use mathlib.Core.List.{List}
use Prim.Native.Nat.{ℕ, ◌+◌, ◌-◌, ◌*◌, ◌%◌, ◌^◌, ◌≤◌, ◌<◌}
use native.Mathlib.Omega.{arith}
use lib.ListN.{drop}
use Rattle.model.specs.Spelling.{CheckSays, Judgement, no_end, no_room, not_an_image, Proposal, proposed, ProposeSays, right, text_too_long, wrong}
use Rattle.model.proofs.Spelling.Answers.{check_one, propose_one}
use Rattle.panel.specs.Says.{Gives, its_count, one_if_yes, StartsBefore}
use Rattle.panel.proofs.Laws.Given.{Apart, apart, one_given}

-- ---- CHECK: 1 or 0, which fits, and no place
pub yes_small : (b : Bool) → one_if_yes b < 2 ^ 32
yes_small true = omega arith
yes_small false = omega arith

pub check_placeless : {words text : List ℕ} {start end : ℕ} {states : List ℕ} {a : Judgement} → CheckSays words text start end states a → a.place ≡ 0
check_placeless (CheckSays.not_an_image n e) = ap (λ (a : Judgement). a.place) e
check_placeless (CheckSays.text_too_long t i l e) = ap (λ (a : Judgement). a.place) e
check_placeless (right t i l S e) = ap (λ (a : Judgement). a.place) e
check_placeless (wrong t i l n e) = ap (λ (a : Judgement). a.place) e

module _ {words text : List ℕ} {start end : ℕ} {states : List ℕ} {r : ℕ} (G : Gives one_if_yes (CheckSays words text start end states) r tt) where
  pub check_apart : Apart G
  check_apart = apart G (check_placeless G.says) (yes_small G.given)

  pub check_given : {q : ℕ} → Gives one_if_yes (CheckSays words text start end states) q tt → r ≡ q
  check_given H = (one_given G (check_one words text start end states) H).0

-- ---- PROPOSE
module _ {words text : List ℕ} {end : ℕ} {before : List ℕ} where
  pub proposed_small : {a : Proposal} → ProposeSays words text end before a → (a.place ≡ 0) × (a.given.count ≤ 65535)
  proposed_small (not_an_image n e) = (ap (λ (a : Proposal). a.place) e, omega (arith, ap (λ (a : Proposal). a.given.count) e))
  proposed_small (text_too_long t i l e) = (ap (λ (a : Proposal). a.place) e, omega (arith, ap (λ (a : Proposal). a.given.count) e))
  proposed_small (no_end t i l n e) = (ap (λ (a : Proposal). a.place) e, omega (arith, ap (λ (a : Proposal). a.given.count) e))
  proposed_small (no_room t s i l L r e) = (ap (λ (a : Proposal). a.place) e, omega (arith, ap (λ (a : Proposal). a.given.count) e))
  proposed_small (proposed t s xs i l L r S e) = (ap (λ (a : Proposal). a.place) e, omega (arith, ap (λ (a : Proposal). a.given.count) e, S.inside))

  -- once done, the start is the end less the count
  pub proposed_start : {a : Proposal} → ProposeSays words text end before a → a.number ≡ 0 → a.given.start ≡ end - a.given.count
  proposed_start (not_an_image n e) z = absurd (omega (arith, z, ap (λ (a : Proposal). a.number) e))
  proposed_start (text_too_long t i l e) z = absurd (omega (arith, z, ap (λ (a : Proposal). a.number) e))
  proposed_start (no_end t i l n e) z = absurd (omega (arith, z, ap (λ (a : Proposal). a.number) e))
  proposed_start (no_room t s i l L r e) z = absurd (omega (arith, z, ap (λ (a : Proposal). a.number) e))
  proposed_start (proposed t s xs i l L r S e) z = omega (arith, ap (λ (a : Proposal). a.given.start) e, ap (λ (a : Proposal). a.given.count) e, S.ordered)

  -- what was given and lent settles the number given and all of the lent list that is not written
  module _ {r : ℕ} {after : List ℕ} (G : Gives its_count (StartsBefore end (ProposeSays words text end before)) r after) where
    pub propose_apart : Apart G
    propose_apart = let k = proposed_small G.says.0 in apart G k.0 (omega (arith, k.1))

    pub propose_given : {q : ℕ} {later : List ℕ} → Gives its_count (StartsBefore end (ProposeSays words text end before)) q later → (r ≡ q) × (drop (r % 2 ^ 32) after ≡ drop (r % 2 ^ 32) later)
    propose_given {later = later} H =
        let e = propose_one words text end before _ _ G.says.0 H.says.0 in (
          G.packed ∙ (λ i. (e i).number * 2 ^ 32 + ((e i).place + (e i).given.count)) ∙ sym H.packed,
          ap (λ (n : ℕ). drop n after) propose_apart.1 ∙ (λ i. (e i).lent) ∙ ap (λ (n : ℕ). drop n later) (sym (propose_apart.1 ∙ (λ i. (e i).given.count))),
        )
