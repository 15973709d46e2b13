-- The word, and at most ten digits and the line's end after it.
use native.Mathlib.Omega.{arith}
use lib.ListN.{length-append}
use Rattle.program_lines.specs.Lines.{decimal, line}
use Rattle.program_lines.proofs.Laws.Numbers.{number_short}
use Rattle.program_lines.proofs.Laws.Puts.{put_then}
use Rattle.explain.proofs.record.put_numbered.Goals as goal

pub put_number-requires : goal.put_number-requires
put_number-requires c = omega (arith, c.put-after.ensures.place, c.requires)

pub returns : goal.returns
returns c =
    let n = number_short 9 c.args.number (omega (arith, c.requires.2)) in
    let l = length-append c.args.word.now (line (decimal c.args.number)) in
    omega (arith, (put_then c.put-after.ensures c.put_number.ensures).place, n, l)
