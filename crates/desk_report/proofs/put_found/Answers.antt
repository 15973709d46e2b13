-- The writing's line, the total's and those of the ends, one after another.
use mathlib.Core.List.{[], ◌∷◌}
use native.Mathlib.Omega.{arith}
use lib.ListN.{length-append}
use Rattle.program_lines.proofs.Laws.Numbers.{number_short}
use Rattle.program_lines.proofs.Laws.Puts.{put_then}
use Rattle.desk_report.proofs.put_found.Goals as goal

pub put_total-second-requires : goal.put_total-second-requires
put_total-second-requires c = omega (arith, length-append c.args.writing.now (10 ∷ []))

pub put_ends-requires : goal.put_ends-requires
put_ends-requires c = omega (arith, length-append c.args.writing.now (10 ∷ []), number_short 19 c.args.total (omega arith))

pub returns : goal.returns
returns c = put_then c.put_line-first.ensures (put_then c.put_total-second.ensures c.put_ends.ensures)
