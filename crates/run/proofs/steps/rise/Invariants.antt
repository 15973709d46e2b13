-- `rise`: what is left of the way up from depth k gives what the whole way gives.
use mathlib.Core.Path.{◌≡◌}
use lib.ListN.{take}
use Prim.Native.Nat.{◌≤◌}
use Rattle.model.specs.Models.Run.{rise_words}
use Rattle.run.specs.Work.{pass_masks}
use Rattle.run.proofs.steps.rise.Given as goal

abbrev pub invariant-loop-k : goal.invariant-loop-k
invariant-loop-k l =
    (l.k ≤ l.work.depth) × (rise_words (pass_masks l.n l.work.table) l.k (take l.n l.r.words) ≡ rise_words (pass_masks l.n l.work.table) l.work.depth (take l.n l.initial.r.words))
