-- `reading::read_line`: what the digits so far stand for is at most a million.
use Prim.Native.Nat.{◌≤◌}
use Rattle.explain.proofs.reading.read_line.Given as goal

abbrev pub invariant-loop-length : goal.invariant-loop-length
invariant-loop-length l = l.number ≤ 1000000
