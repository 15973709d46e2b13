-- `into`: each turn takes the states of one word more.
use Rattle.spelling_propose.proofs.Laws.Origins.{Gathered}
use Rattle.spelling_propose.proofs.origins.into.Given as goal

abbrev pub invariant-loop-i : goal.invariant-loop-i
invariant-loop-i l = Gathered l.rows l.fn.row l.i l.r
