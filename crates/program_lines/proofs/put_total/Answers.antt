-- The word `total `, and the number after it.
use Rattle.program_lines.proofs.Laws.Puts.{put_then}
use Rattle.program_lines.proofs.put_total.Goals as goal

pub returns : goal.returns
returns c = put_then c.put-after.ensures c.put_number.ensures
