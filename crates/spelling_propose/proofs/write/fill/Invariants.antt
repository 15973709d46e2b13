-- `fill`: from the last place down, each turn has one set more.
use Rattle.spelling_propose.proofs.Laws.Walk.{Filling}
use Rattle.spelling_propose.proofs.write.fill.Given as goal

abbrev pub invariant-loop-k : goal.invariant-loop-k
invariant-loop-k l = Filling l.origins.edges.now.image.words.now l.text l.lo l.hi l.initial.here l.k l.here l.sets
