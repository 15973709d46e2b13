-- `letter_masks::put_both`: the words written so far are the first of the row with the loops; those read stand before them, and are as they were.
use mathlib.Core.Path.{◌≡◌}
use lib.ListN.{take}
use lib.Seq.{sets}
use Rattle.image.specs.Work.{both_row}
use Rattle.image.proofs.letter_masks.put_both.Given as goal

abbrev pub invariant-loop-j : goal.invariant-loop-j
invariant-loop-j l = l.words ≡ sets l.initial.words l.at (take l.j (both_row l.width l.initial.words l.from l.loops))
