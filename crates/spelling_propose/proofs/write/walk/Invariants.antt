-- `walk`: each turn writes one state more.
use Rattle.spelling_propose.proofs.Laws.Walk.{Walking}
use Rattle.spelling_propose.proofs.write.walk.Given as goal

abbrev pub invariant-loop-k : goal.invariant-loop-k
invariant-loop-k l = Walking l.edges.image.words.now l.text l.lo l.hi l.sets l.from l.start l.initial.states l.k l.at l.states
