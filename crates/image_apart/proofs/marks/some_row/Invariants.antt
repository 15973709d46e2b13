-- `marks::some_row`: word j of the row has the bits that word j of some mask has.
use Rattle.image_apart.proofs.Laws.Rows.{RowTo}
use Rattle.image_apart.proofs.marks.some_row.Given as goal

abbrev pub invariant-loop-j : goal.invariant-loop-j
invariant-loop-j l = RowTo l.image.words.now l.at l.stride l.count l.j l.row
