-- `walk`: each turn writes one state more.
use Rattle.spelling_propose.proofs.Laws.Walk.{walking_all, walking_more}
use Rattle.spelling_propose.proofs.write.walk.Goals as goal

pub loop-k-preserved : goal.loop-k-preserved
loop-k-preserved c =
    let a = c.args in
    walking_more a.edges.now.image.words.now a.text.now a.lo a.hi a.sets.now a.from a.start a.states.now c.requires c.loop-k.invariant c.loop-k-test.true c.choose-at.result c.choose-at.ensures

pub returns : goal.returns
returns c =
    let a = c.args in
    walking_all a.edges.now.image.words.now a.text.now a.lo a.hi a.sets.now a.from a.start a.states.now c.requires c.loop-k.invariant c.loop-k-test.false
