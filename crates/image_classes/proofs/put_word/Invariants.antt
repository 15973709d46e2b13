-- `put_word`: each turn moves the lowest bit that is left of the word into the table; at the end none is left.
use Rattle.image_classes.proofs.Laws.Filled.{Left}
use Rattle.image_classes.proofs.put_word.Given as goal

abbrev pub invariant-loop-rest : goal.invariant-loop-rest
invariant-loop-rest l = Left l.initial.classes l.byte l.word l.classes l.rest

abbrev pub decreases-loop-rest : goal.decreases-loop-rest
decreases-loop-rest l = l.rest
