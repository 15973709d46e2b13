-- `put_word`: each turn moves the lowest bit that is left of the word into the table; at the end none is left.
use Rattle.image_classes.proofs.Laws.Filled.{left_less, left_next, left_none}
use Rattle.image_classes.proofs.put_word.Goals as goal

pub loop-rest-smaller : goal.loop-rest-smaller
loop-rest-smaller c =
    let a = c.args in
    left_less a.classes.now a.byte a.word c.requires.0 c.loop-rest.invariant c.loop-rest-test.true

pub loop-rest-preserved : goal.loop-rest-preserved
loop-rest-preserved c =
    let a = c.args in
    left_next a.classes.now a.byte a.word c.requires.0 c.loop-rest.invariant c.loop-rest-test.true

pub returns : goal.returns
returns c = left_none c.loop-rest-test.false c.loop-rest.invariant
