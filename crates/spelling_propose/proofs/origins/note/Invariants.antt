-- `note`: each turn decides for one row more.
use Rattle.spelling_propose.proofs.Laws.Origins.{Noting}
use Rattle.spelling_propose.proofs.origins.note.Given as goal

abbrev pub invariant-loop-p : goal.invariant-loop-p
invariant-loop-p l = Noting l.initial.rows l.q l.reached l.p l.rows
