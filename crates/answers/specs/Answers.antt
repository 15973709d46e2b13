-- WHAT THE ANSWERS MEAN: the number and the place of each refusal, and each answer as the tables have it, with what was lent as it is afterwards.
use Rattle.std.specs.Prelude.{Bool, Err, List, Ok, Result, false, ℕ}
use Rattle.model.specs.Answers as tables
use Rattle.model.specs.Spelling.{Judgement, Proposal, says, Stretch}
use Rattle.answers.specs.declared.Proposed.{Proposed}
use Rattle.answers.specs.declared.Refusal.{Refusal}
use Rattle.answers.specs.declared.Refusal.TheVariants.{NoRoomForImage, NoRoomForStates, NoRoomForWriting, NotAMask, NotAnEnd, NotAnImage, NotARule, PlaceTooFar, RuleTooLong, TextTooLong, TooDeep, TooManyStates}

abbrev pub number_of : Refusal → ℕ
number_of RuleTooLong = 1
number_of (NotARule p) = 2
number_of TooManyStates = 3
number_of TooDeep = 4
number_of NoRoomForImage = 5
number_of NotAnImage = 6
number_of TextTooLong = 7
number_of NoRoomForWriting = 8
number_of NotAMask = 9
number_of PlaceTooFar = 10
number_of NotAnEnd = 16
number_of NoRoomForStates = 17

-- "With 2 the builder shall also give a place .. All other answers carry place 0."
abbrev pub place_of : Refusal → ℕ
place_of (NotARule p) = p
place_of _ = 0

-- ---- build, read back, match, begin and step: number, place and count, and what was lent
abbrev pub number_in : Result ℕ Refusal → ℕ
number_in (Err x) = number_of x
number_in (Ok n) = 0

abbrev pub place_in : Result ℕ Refusal → ℕ
place_in (Err x) = place_of x
place_in (Ok n) = 0

abbrev pub count_in : Result ℕ Refusal → ℕ
count_in (Err x) = 0
count_in (Ok n) = n

abbrev pub answered : {Lent : Type 0} → Result ℕ Refusal → Lent → tables.Answer ℕ Lent
answered r lent = record { number = number_in r; place = place_in r; given = count_in r; lent = lent }

-- ---- the check of a spelling, to which nothing is lent
abbrev pub judgement : Result Bool Refusal → Judgement
judgement (Err x) = tables.refusal_at false (place_of x) (number_of x) tt
judgement (Ok b) = says b

-- ---- the proposer
abbrev pub proposed_number : Result Proposed Refusal → ℕ
proposed_number (Err x) = number_of x
proposed_number (Ok p) = 0

abbrev pub proposed_place : Result Proposed Refusal → ℕ
proposed_place (Err x) = place_of x
proposed_place (Ok p) = 0

abbrev pub proposed_stretch : Result Proposed Refusal → Stretch
proposed_stretch (Err x) = record { start = 0; count = 0 }
proposed_stretch (Ok p) = record { start = p.start; count = p.count }

abbrev pub proposal : Result Proposed Refusal → List ℕ → Proposal
proposal r lent = record { number = proposed_number r; place = proposed_place r; given = proposed_stretch r; lent = lent }
