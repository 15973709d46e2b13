-- The bytes, and byte 10 after them.
use Rattle.program_lines.proofs.Laws.Puts.{put_then}
use Rattle.program_lines.proofs.put_line.Goals as goal

pub returns : goal.returns
returns c = put_then c.put-after.ensures c.put.ensures
