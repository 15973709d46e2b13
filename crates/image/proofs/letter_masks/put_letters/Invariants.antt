-- `letter_masks::put_letters`: after the count the rows of one word of the classes after another stand, and the four of them are those of all bytes.
use Prim.Native.Nat.{◌*◌}
use Rattle.image.proofs.Laws.Parts.{Parts}
use Rattle.image.specs.Work.{quarter_part}
use Rattle.image.proofs.letter_masks.put_letters.Given as goal

abbrev pub invariant-loop-q : goal.invariant-loop-q
invariant-loop-q l = Parts (64 * l.width) 4 (quarter_part l.width l.tokens l.length) l.initial.words l.at l.words l.q
