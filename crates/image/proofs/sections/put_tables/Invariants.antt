-- `sections::put_tables`: after the count the masks of the first depths stand one after another.
use Prim.Native.Nat.{◌*◌}
use Rattle.image.proofs.Laws.Parts.{Parts}
use Rattle.image.specs.Work.{depth_masks}
use Rattle.image.proofs.sections.put_tables.Given as goal

abbrev pub invariant-loop-k : goal.invariant-loop-k
invariant-loop-k g l = Parts (g.row.N * l.width) l.depths (depth_masks l.width l.first g.row.N l.masks) l.initial.words l.at l.words l.k
