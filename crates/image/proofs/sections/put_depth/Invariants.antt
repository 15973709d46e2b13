-- `sections::put_depth`: the masks of the first planes stand one after another.
use Prim.Native.Nat.{◌+◌}
use lib.ListN.{take}
use Rattle.tokens_masks.specs.Masks.{row_in, row_number}
use Rattle.image.proofs.Laws.Parts.{Parts}
use Rattle.image.proofs.sections.put_depth.Given as goal

abbrev pub invariant-loop-j : goal.invariant-loop-j
invariant-loop-j g l = Parts l.width g.row.N (λ j. take l.width (row_in l.masks (row_number l.depth (l.first + j)))) l.initial.words l.at l.words l.j
