-- Each token opens one union at most, so the count stays small.
use Prim.Native.Nat.{◌+◌, ◌≤◌}
use Rattle.writing.proofs.ranges.close_of.Given as goal

abbrev pub invariant-loop-i : goal.invariant-loop-i
invariant-loop-i l = (1 ≤ l.open) × (l.open ≤ l.i + 1)
