-- `find_origins`: each turn puts one state more into the rows of what it reaches.
use Rattle.spelling_propose.proofs.Laws.Origins.{Found}
use Rattle.spelling_propose.proofs.origins.find_origins.Given as goal

abbrev pub invariant-loop-q : goal.invariant-loop-q
invariant-loop-q l = Found l.edges.image.words.now l.edges.image.sections.states l.q l.rows
