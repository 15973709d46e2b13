-- `find_start`: at each place the set is known, no later place is a start, and the sets of each 256th place from it on are kept.
use Rattle.spelling_propose.proofs.Laws.Search.{Backed}
use Rattle.spelling_propose.proofs.search.find_start.Given as goal

abbrev pub invariant-loop-k : goal.invariant-loop-k
invariant-loop-k l = Backed l.origins.edges.now.image.words.now l.text l.end l.k l.set l.kept
