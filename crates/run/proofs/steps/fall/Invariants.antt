-- `fall`: what is left of the way down gives what the whole way gives.
use mathlib.Core.Path.{◌≡◌}
use lib.ListN.{take}
use Prim.Native.Nat.{◌-◌, ◌≤◌}
use Rattle.model.specs.Models.Run.{fall_words}
use Rattle.run.specs.Work.{pass_masks}
use Rattle.run.proofs.steps.fall.Given as goal

abbrev pub invariant-loop-k : goal.invariant-loop-k
invariant-loop-k l =
    (l.k ≤ l.work.depth) × (fall_words (pass_masks l.n l.work.table) (l.work.depth - l.k) l.k (take l.n l.r.words) ≡ fall_words (pass_masks l.n l.work.table) l.work.depth 0 (take l.n l.initial.r.words))
