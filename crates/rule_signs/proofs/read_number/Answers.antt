-- `read_number`: no digit; `0` alone; or a first digit, if what may follow can be high enough.
use native.Mathlib.Omega.{arith}
use Rattle.std.proofs.lemmas.Grind.{common_steps}
use Rattle.rule_signs.proofs.Laws.Placed.{number_tells}
use Rattle.rule_signs.proofs.read_number.Goals as goal

pub returns-then-not-is_digit : goal.returns-then-not-is_digit
returns-then-not-is_digit c = number_tells _ _ _ _ c.requires (grind (arith, common_steps))

pub returns-then-least-gt0 : goal.returns-then-least-gt0
returns-then-least-gt0 c = number_tells _ _ _ _ c.requires (grind (arith, common_steps))

pub returns-then-x-eq48 : goal.returns-then-x-eq48
returns-then-x-eq48 c = number_tells _ _ _ _ c.requires (grind (arith, common_steps))

pub returns-then-v-least : goal.returns-then-v-least
returns-then-v-least c = number_tells _ _ _ _ c.requires (grind (arith, common_steps))

pub returns : goal.returns
returns c = number_tells _ _ _ _ c.requires (grind (arith, common_steps))
