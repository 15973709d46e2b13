-- WHAT WAS ANSWERED IS KNOWN FROM NUMBER, PLACE AND GIVEN: no two refusals have one number and one place, and none has the number 0.
use mathlib.Core.Path.{◌≡◌, refl, sym, ap, ◌∙◌}
use mathlib.Core.Bool.{Bool, false, cond}
use mathlib.Core.List.{List, [], ◌∷◌}
use Prim.Native.Nat.{ℕ, ◌-◌, ◌≤◌, ◌<◌}
use native.Mathlib.Omega.{arith}
use lib.Dec.{eqb}
use lib.ListN.{get_or}
use Rattle.std.specs.Prelude.{Err, Ok, Result}
use Rattle.model.specs.Spelling.{Stretch}
use Rattle.model.proofs.Laws.Bool.{unequal}
use Rattle.model.proofs.Spelling.Answers.{settled}
use Rattle.answers.specs.Answers.{answered, count_in, judgement, number_in, number_of, place_in, place_of, proposal, proposed_number, proposed_place, proposed_stretch}
use Rattle.answers.specs.declared.Proposed.{Proposed}
use Rattle.answers.specs.declared.Refusal.{Refusal}
use Rattle.answers.specs.declared.Refusal.TheVariants.{NoRoomForImage, NoRoomForStates, NoRoomForWriting, NotAMask, NotAnEnd, NotAnImage, NotARule, PlaceTooFar, RuleTooLong, TextTooLong, TooDeep, TooManyStates}

-- ---- a refusal's number is from 1 to 17
pub number_known : (x : Refusal) → (0 < number_of x) × (number_of x ≤ 17)
number_known RuleTooLong = (omega arith, omega arith)
number_known (NotARule p) = (omega arith, omega arith)
number_known TooManyStates = (omega arith, omega arith)
number_known TooDeep = (omega arith, omega arith)
number_known NoRoomForImage = (omega arith, omega arith)
number_known NotAnImage = (omega arith, omega arith)
number_known TextTooLong = (omega arith, omega arith)
number_known NoRoomForWriting = (omega arith, omega arith)
number_known NotAMask = (omega arith, omega arith)
number_known PlaceTooFar = (omega arith, omega arith)
number_known NotAnEnd = (omega arith, omega arith)
number_known NoRoomForStates = (omega arith, omega arith)

-- ---- and the refusal is found from it and the place
abbrev refusal_with : ℕ → (place : ℕ) → Refusal
refusal_with n p =
    cond (eqb n 16) NotAnEnd
    (get_or (RuleTooLong ∷ NotARule p ∷ TooManyStates ∷ TooDeep ∷ NoRoomForImage ∷ NotAnImage ∷ TextTooLong ∷ NoRoomForWriting ∷ NotAMask ∷ PlaceTooFar ∷ []) (n - 1)
    NoRoomForStates)

with_number : (x : Refusal) → refusal_with (number_of x) (place_of x) ≡ x
with_number RuleTooLong = refl
with_number (NotARule p) = refl
with_number TooManyStates = refl
with_number TooDeep = refl
with_number NoRoomForImage = refl
with_number NotAnImage = refl
with_number TextTooLong = refl
with_number NoRoomForWriting = refl
with_number NotAMask = refl
with_number PlaceTooFar = refl
with_number NotAnEnd = refl
with_number NoRoomForStates = refl

-- ---- what is read from an answer's number, place and given: by number 0 it is done with what `done` makes of the given
module _ {A Given : Type 0} (done : Given → A) where
  abbrev pub read : ℕ → (place : ℕ) → Given → Result A Refusal
  read n p g = cond (eqb n 0) (Ok (done g)) (Err (refusal_with n p))

  read_refused : (x : Refusal) (g : Given) → read (number_of x) (place_of x) g ≡ Err x
  read_refused x g = rw (unequal (number_of x) 0 (λ e. omega (arith, (number_known x).0, e))) (ap Err (with_number x))

-- ---- A COUNT'S ANSWER
abbrev counted : (number place count : ℕ) → Result ℕ Refusal
counted = read (λ n. n)

counted_is : (r : Result ℕ Refusal) → counted (number_in r) (place_in r) (count_in r) ≡ r
counted_is (Err x) = read_refused (λ n. n) x 0
counted_is (Ok n) = refl

pub answered_apart : {Lent : Type 0} {after later : Lent} (r q : Result ℕ Refusal) → answered r after ≡ answered q later → (r ≡ q) × (after ≡ later)
answered_apart r q e = (sym (counted_is r) ∙ (λ i. counted (e i).number (e i).place (e i).given) ∙ counted_is q, λ i. (e i).lent)

-- ---- A JUDGEMENT
abbrev judged_by : (number place : ℕ) → Bool → Result Bool Refusal
judged_by = read (λ b. b)

judged_is : (r : Result Bool Refusal) → judged_by (judgement r).number (judgement r).place (judgement r).given ≡ r
judged_is (Err x) = read_refused (λ b. b) x false
judged_is (Ok b) = refl

pub judgement_apart : (r q : Result Bool Refusal) → judgement r ≡ judgement q → r ≡ q
judgement_apart r q e = sym (judged_is r) ∙ (λ i. judged_by (e i).number (e i).place (e i).given) ∙ judged_is q

-- ---- A PROPOSAL
abbrev stretch_proposed : Stretch → Proposed
stretch_proposed s = record { start = s.start; count = s.count }

abbrev proposed_by : (number place : ℕ) → Stretch → Result Proposed Refusal
proposed_by = read stretch_proposed

proposed_is : (r : Result Proposed Refusal) → proposed_by (proposed_number r) (proposed_place r) (proposed_stretch r) ≡ r
proposed_is (Err x) = read_refused stretch_proposed x (record { start = 0; count = 0 })
proposed_is (Ok p) = refl

pub proposal_apart : (r q : Result Proposed Refusal) (after later : List ℕ) → settled (proposal r after) ≡ settled (proposal q later) → r ≡ q
proposal_apart r q after later e = sym (proposed_is r) ∙ (λ i. proposed_by (e i).number (e i).place (e i).given) ∙ proposed_is q
