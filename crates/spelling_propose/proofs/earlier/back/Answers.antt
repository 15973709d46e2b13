-- `back`: what reaches a state that the byte leaves into the set.
use Rattle.image_sections.proofs.Laws.Within.{own_states}
use Rattle.spelling_propose.proofs.Laws.Back.{back_says}
use Rattle.spelling_propose.proofs.earlier.back.Goals as goal

pub returns : goal.returns
returns c =
    let a = c.args in
    let l = c.leave-left in
    let i = a.origins.now.edges.now.image in
    back_says i.words.now a.origins.now.rows.now i.sections.states (own_states i.placed) a.origins.now.reached a.set l.result.words c.into.result a.byte
    l.ensures.left c.into.ensures
