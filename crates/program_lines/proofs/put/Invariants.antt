-- Each turn stores one byte more, or nothing where there is no room for it.
use Prim.Native.Nat.{◌+◌}
use lib.ListN.{take}
use Rattle.program_lines.specs.Work.{PutAt}
use Rattle.program_lines.proofs.put.Given as goal

abbrev pub invariant-loop-i : goal.invariant-loop-i
invariant-loop-i l = PutAt (take l.i l.bytes) l.initial.text l.at (l.at + l.i) l.text
