-- `all_sources`: the row has those of the depths passed (`sources_more`).
use mathlib.Core.Path.{◌≡◌}
use Prim.Native.Nat.{◌≤◌}
use lib.ListN.{length}
use Rattle.run.specs.Work.{Sources}
use Rattle.run.proofs.table.all_sources.Given as goal

abbrev pub invariant-loop-k : goal.invariant-loop-k
invariant-loop-k l = (l.k ≤ l.work.depth) × Sources l.work.table l.k l.r.words × (length l.r.words ≡ 8)
