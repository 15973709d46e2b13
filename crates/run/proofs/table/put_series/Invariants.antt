-- `put_series`: each turn puts one mask more (`put_more`).
use Prim.Native.Nat.{◌≤◌}
use Rattle.run.specs.Work.{PutTo}
use Rattle.run.proofs.table.put_series.Given as goal

abbrev pub invariant-loop-k : goal.invariant-loop-k
invariant-loop-k l = (l.k ≤ 9) × PutTo l.k l.j l.row-items l.initial.table l.table
