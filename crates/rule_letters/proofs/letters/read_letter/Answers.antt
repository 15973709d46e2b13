-- `read_letter`: the first byte decides which of the four letters it is; from the rule's end on there is no byte.
use native.Mathlib.Omega.{arith}
use Rattle.std.proofs.lemmas.Grind.{common_steps}
use Rattle.rule_letters.proofs.Laws.Placed.{letter_tells}
use Rattle.rule_letters.proofs.letters.read_letter.Goals as goal

pub returns-then-at-rule : goal.returns-then-at-rule
returns-then-at-rule c = letter_tells _ _ _ (grind (arith, common_steps))

pub returns-in-46 : goal.returns-in-46
returns-in-46 c = letter_tells _ _ _ (grind (arith, common_steps))

pub returns-in-91 : goal.returns-in-91
returns-in-91 c = letter_tells _ _ _ (grind (arith, common_steps))

pub returns-in-92 : goal.returns-in-92
returns-in-92 c = letter_tells _ _ _ (grind (arith, common_steps))

pub returns-in_default : goal.returns-in_default
returns-in_default c = letter_tells _ _ _ (grind (arith, common_steps))

pub returns-in_default-2 : goal.returns-in_default-2
returns-in_default-2 c = letter_tells _ _ _ (grind (arith, common_steps))
