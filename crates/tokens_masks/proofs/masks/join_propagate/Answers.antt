-- `masks::join_propagate`: each word is joined once, and no other word meanwhile.
use Rattle.std.proofs.Common.{rules}
use Rattle.tokens_masks.proofs.Joining.{joining_end, joining_step}
use Rattle.tokens_masks.proofs.masks.join_propagate.Goals as goal

pub loop-n-preserved : goal.loop-n-preserved
loop-n-preserved c = joining_step c.loop-n.invariant c.loop-n-test.true c.place_of-at.result c.place_of-at.ensures

pub returns : goal.returns
returns c = joining_end (search rules) c.loop-n.invariant c.loop-n-test.false
