-- `ending`: what reaches the accepting state.
use native.Mathlib.Omega.{arith}
use Rattle.image_sections.proofs.Laws.Within.{own_states}
use Rattle.spelling_propose.proofs.Laws.Back.{ending_says}
use Rattle.spelling_propose.proofs.earlier.ending.Goals as goal

pub overflow_sub-last : goal.overflow_sub-last
overflow_sub-last c = let P = c.args.origins.now.edges.now.image.placed in omega (arith, own_states P, P.some)

pub with_state-requires : goal.with_state-requires
with_state-requires c = let P = c.args.origins.now.edges.now.image.placed in omega (arith, own_states P, P.few)

pub returns : goal.returns
returns c =
    let a = c.args in
    let i = a.origins.now.edges.now.image in
    let w = c.with_state in
    ending_says i.words.now a.origins.now.rows.now i.sections.states (own_states i.placed) a.origins.now.reached w.result c.into.result w.ensures c.into.ensures
