-- `check_spelling`: each way out is a row of the table.
use Rattle.spelling.proofs.Laws.Check.{judged, other, too_long}
use Rattle.spelling.proofs.check_spelling.Goals as goal

pub returns-in_default : goal.returns-in_default
returns-in_default c = other c.check.ensures c.in_default.is

pub returns-then-text-gt65535 : goal.returns-then-text-gt65535
returns-then-text-gt65535 c = too_long c.check.ensures c.in-Some.is c.if-text-gt65535.true

pub returns : goal.returns
returns c = judged c.check.ensures c.in-Some.is c.if-text-gt65535.false c.is_right.result c.is_right.ensures
