-- `write`: each turn writes one stretch more.
use Rattle.spelling_propose.proofs.Laws.Write.{stretch, walk_asks, writing_all, writing_more, writing_none}
use Rattle.spelling_propose.proofs.write.write.Goals as goal

pub loop-k-init : goal.loop-k-init
loop-k-init c =
    let a = c.args in
    writing_none a.origins.now.edges.now.image.words.now a.text.now a.start a.end a.kept.now a.states.now c.requires

pub fill-requires : goal.fill-requires
fill-requires c =
    let l = c.loop-k in
    let a = c.args in
    stretch a.origins.now.edges.now.image.words.now a.text.now a.start a.end a.kept.now a.states.now c.requires l.invariant c.stop_after-stop.ensures

pub walk-at-requires : goal.walk-at-requires
walk-at-requires c =
    let l = c.loop-k in
    let a = c.args in
    walk_asks a.origins.now.edges.now.image.words.now a.text.now a.start a.end a.kept.now a.states.now c.requires l.invariant c.stop_after-stop.ensures

pub loop-k-preserved : goal.loop-k-preserved
loop-k-preserved c =
    let w = c.walk-at in
    let f = c.fill in
    let h = c.set_at-set in
    let l = c.loop-k in
    let a = c.args in
    writing_more a.origins.now.edges.now.image.words.now a.text.now a.start a.end a.kept.now a.states.now c.requires l.invariant c.stop_after-stop.ensures
    h.result h.ensures f.new.sets f.ensures w.result w.new.states w.ensures

pub returns : goal.returns
returns c =
    let a = c.args in
    writing_all a.origins.now.edges.now.image.words.now a.text.now a.start a.end a.kept.now a.states.now c.requires c.loop-k.invariant c.loop-k-test.false
