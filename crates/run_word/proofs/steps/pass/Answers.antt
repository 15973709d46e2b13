-- `pass` is the way up, depth 0's own chains and the way down.
use Rattle.std.proofs.Common.{get_or}
use Rattle.run_word.proofs.Laws.Passes.{up_and_down}
use Rattle.run_word.proofs.steps.pass.Goals as goal

pub returns : goal.returns
returns c =
    let a = c.args in
    let t = a.table.now in
    up_and_down a.any (get_or t 6 0) (get_or t 7 0) (get_or t 8 0) t a.depth a.live c.rise-up.result c.rise-up.ensures c.along-level.ensures c.fall.ensures
