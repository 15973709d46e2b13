-- `into_word`: each turn takes the origins of the lowest state that is left of the word; at the end none is left.
use Rattle.spelling_propose.proofs.Laws.Origins.{Taking}
use Rattle.spelling_propose.proofs.origins.into_word.Given as goal

abbrev pub invariant-loop-left : goal.invariant-loop-left
invariant-loop-left l = Taking l.rows l.word l.at l.initial.all l.left l.all

abbrev pub decreases-loop-left : goal.decreases-loop-left
decreases-loop-left l = l.left
