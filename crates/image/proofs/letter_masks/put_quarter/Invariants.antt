-- `letter_masks::put_quarter`: after i turns the rows are those of the first i tokens; a class's word without a bit would change none of them.
use mathlib.Core.Path.{◌≡◌}
use lib.Seq.{sets}
use Rattle.image.specs.Work.{quarter_part}
use Rattle.image.proofs.letter_masks.put_quarter.Given as goal

abbrev pub invariant-loop-i : goal.invariant-loop-i
invariant-loop-i l = l.words ≡ sets l.fn.words l.at (quarter_part l.width l.tokens l.i l.q)
