-- `letter_masks::put_repeats`: after the count the rows of the first bytes with the loops stand one after another; nothing is written over those read.
use Prim.Native.Nat.{◌+◌, ◌*◌}
use Rattle.image.proofs.Laws.Parts.{Parts}
use Rattle.image.specs.Work.{both_row}
use Rattle.image.proofs.letter_masks.put_repeats.Given as goal

abbrev pub invariant-loop-b : goal.invariant-loop-b
invariant-loop-b l = Parts l.width 256 (λ k. both_row l.width l.initial.words (l.from + l.width * k) l.loops) l.initial.words l.at l.words l.b
