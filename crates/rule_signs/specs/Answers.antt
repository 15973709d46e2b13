-- WHAT THE READERS' ANSWERS SAY of what the models read (`Read`): a value with the place from which on nothing is read yet, or the place of the
-- first byte that cannot be read. The readers of numbers and of signs tell as well what that place means (`TakesAt`, `StopsAt`).
use Rattle.std.specs.Prelude.{List, ℕ, ◌≤◌, Result, drop, length}
use Rattle.model.specs.Grammar.{IsNumber, IsSign, plainly, Sign, times}
use Rattle.model.specs.Models.Places.{free, halts, Least}
use Rattle.model.specs.Models.Reader.{Read, read_number, read_sign}
use Rattle.rule_bytes.specs.Places.{Placed, Says}
use Rattle.rule_bytes.specs.declared.Unreadable.{Unreadable}
use Rattle.tokens.specs.Tokens.{repeat_of}
use Rattle.rule_signs.specs.declared.Bounds.{Bounds}
use Rattle.rule_signs.specs.declared.HowOften.{HowOften}
use Rattle.rule_signs.specs.declared.HowOften.TheVariants.{Plainly, Times}

abbrev pub NumberSays : List ℕ → Read ℕ → Result (ℕ × ℕ) Unreadable → Type 0
NumberSays = Says (λ n. n)

abbrev pub bounds_of : Bounds → ℕ × ℕ
bounds_of b = (b.x, b.y)

abbrev pub BoundsSays : List ℕ → Read (ℕ × ℕ) → Result (Bounds × ℕ) Unreadable → Type 0
BoundsSays = Says bounds_of

-- a repeat sign as document 01 names it
abbrev pub sign_of : HowOften → Sign
sign_of (Plainly r) = plainly (repeat_of r)
sign_of (Times x y) = times x y

abbrev pub SignSays : List ℕ → Read Sign → Result (HowOften × ℕ) Unreadable → Type 0
SignSays = Says sign_of

-- a number of at least `least`, which there is up to 999
pub record NumberTells (least : ℕ) (rule : List ℕ) (at : ℕ) (r : Result (ℕ × ℕ) Unreadable) : Type 0 where
  pub reads : NumberSays rule (read_number least (drop at rule)) r
  pub place : least ≤ 999 → Placed (λ n. n) (Least least IsNumber) halts rule at r

-- at most one repeat sign; of a place past the rule's end nothing is told
pub record SignTells (rule : List ℕ) (at : ℕ) (r : Result (HowOften × ℕ) Unreadable) : Type 0 where
  pub reads : SignSays rule (read_sign (drop at rule)) r
  pub place : at ≤ length rule → Placed sign_of IsSign free rule at r
