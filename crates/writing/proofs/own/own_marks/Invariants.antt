-- Each turn is a step of the scan, which the token allows since the tape is a tree's, and stores the token's kind with its union's own mark.
use Rattle.writing.proofs.Laws.Own.{Owning}
use Rattle.writing.proofs.own.own_marks.Given as goal

abbrev pub invariant-loop-i : goal.invariant-loop-i
invariant-loop-i l = Owning l.fn.tape l.kinds l.frames l.scan l.i
