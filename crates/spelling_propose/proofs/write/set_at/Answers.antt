-- `set_at`: the end's set, or the kept one.
use Rattle.spelling_propose.proofs.Laws.Write.{set_ending, set_kept}
use Rattle.spelling_propose.proofs.write.set_at.Goals as goal

pub returns-then-stop-end : goal.returns-then-stop-end
returns-then-stop-end c =
    let a = c.args in
    set_ending a.origins.now.edges.now.image.words.now a.end a.kept.now a.stop c.ending.result c.if-stop-end.true c.ending.ensures

pub returns : goal.returns
returns c =
    let a = c.args in
    set_kept a.origins.now.edges.now.image.words.now a.end a.kept.now a.stop c.if-stop-end.false
