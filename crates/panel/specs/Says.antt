-- WHAT C IS GIVEN: an answer of a table, its number, its place and its count in one 64-bit number, and what was lent as the answer has it.
use Rattle.std.specs.Prelude.{◌≡◌, Bool, cond, ℕ, ◌+◌, ◌-◌, ◌*◌, ◌^◌}
use Rattle.model.specs.Answers.{Answer}
use Rattle.model.specs.Spelling.{Proposal, Stretch}

-- the number times 2^32, and in the low half the place or the count: no answer has both. Says: which answers the table has for what was given and lent
pub record Gives {Given Lent : Type 0} (count : Given → ℕ) (Says : Answer Given Lent → Type 0) (r : ℕ) (after : Lent) : Type 0 where
  pub number : ℕ
  pub place : ℕ
  pub given : Given
  pub says : Says (record { number = number; place = place; given = given; lent = after })
  pub packed : r ≡ number * 2 ^ 32 + (place + count given)

-- what counts of what is given: the count itself; 1 for yes; of a proposal how many states it has
abbrev pub itself : ℕ → ℕ
itself n = n

abbrev pub one_if_yes : Bool → ℕ
one_if_yes b = cond b 1 0

abbrev pub its_count : Stretch → ℕ
its_count s = s.count

-- a proposal's start is not given to C: once done, it is the end less the number of states
abbrev pub StartsBefore : (end : ℕ) (Says : Proposal → Type 0) → Proposal → Type 0
StartsBefore end Says a = Says a × (a.number ≡ 0 → a.given.start ≡ end - a.given.count)
