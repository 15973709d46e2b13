-- `into_word`: each turn takes the origins of the lowest state that is left of the word; at the end none is left.
use Rattle.spelling_propose.proofs.Laws.Origins.{taking_all, taking_less, taking_more, taking_none}
use Rattle.spelling_propose.proofs.origins.into_word.Goals as goal

pub loop-left-init : goal.loop-left-init
loop-left-init c = let a = c.args in taking_none a.rows.now a.word a.at a.r c.ranges.word.fits

pub loop-left-smaller : goal.loop-left-smaller
loop-left-smaller c = let a = c.args in taking_less a.rows.now a.word a.at a.r c.loop-left.invariant c.loop-left-test.true

pub loop-left-preserved : goal.loop-left-preserved
loop-left-preserved c =
    let a = c.args in
    taking_more a.rows.now a.word a.at a.r c.loop-left.invariant c.loop-left-test.true c.either-more.result c.either-more.ensures

pub returns : goal.returns
returns c =
    let a = c.args in
    taking_all a.rows.now a.word a.at a.r c.loop-left.invariant c.loop-left-test.false
