-- `unshift`: the words made so far are those of `unshift_words`; the last one has none after it.
use Prim.Native.Nat.{◌≤◌}
use Rattle.mask.proofs.Laws.Filled.{Filled}
use Rattle.run_edges.specs.Reach.{unshift_words}
use Rattle.run_edges.proofs.unshift.Given as goal

abbrev pub invariant-loop-i : goal.invariant-loop-i
invariant-loop-i l = (l.i ≤ 7) × Filled 8 (unshift_words l.a) l.r l.i
