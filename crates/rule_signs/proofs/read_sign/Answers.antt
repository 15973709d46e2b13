-- `read_sign`: the next byte is one of the four signs, or there is none; from the rule's end on there is no byte.
use native.Mathlib.Omega.{arith}
use Rattle.std.proofs.lemmas.Grind.{common_steps}
use Rattle.rule_signs.proofs.Laws.Placed.{sign_tells}
use Rattle.rule_signs.proofs.read_sign.Goals as goal

pub returns-then-at-rule : goal.returns-then-at-rule
returns-then-at-rule c = sign_tells _ _ _ (grind (arith, common_steps))

pub returns-in-63 : goal.returns-in-63
returns-in-63 c = sign_tells _ _ _ (grind (arith, common_steps))

pub returns-in-42 : goal.returns-in-42
returns-in-42 c = sign_tells _ _ _ (grind (arith, common_steps))

pub returns-in-43 : goal.returns-in-43
returns-in-43 c = sign_tells _ _ _ (grind (arith, common_steps))

pub returns-in-123 : goal.returns-in-123
returns-in-123 c = sign_tells _ _ _ (grind (arith, common_steps))

pub returns-in_default : goal.returns-in_default
returns-in_default c = sign_tells _ _ _ (grind (arith, common_steps))
