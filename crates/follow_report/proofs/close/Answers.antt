-- The total's line is all of the text.
use Rattle.std.proofs.Common.{refl}
use Rattle.program_lines.proofs.Laws.Puts.{reports}
use Rattle.follow_report.proofs.close.Goals as goal

pub returns : goal.returns
returns c = reports c.put_total.ensures refl
