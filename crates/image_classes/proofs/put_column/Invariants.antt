-- `put_column`: after each byte the table has those up to it that lead to each state of the column, and after the last all of them.
use Rattle.image_classes.proofs.Laws.Filled.{Upto}
use Rattle.image_classes.proofs.put_column.Given as goal

abbrev pub invariant-loop-byte : goal.invariant-loop-byte
invariant-loop-byte l = Upto l.words l.first l.width l.byte l.classes
