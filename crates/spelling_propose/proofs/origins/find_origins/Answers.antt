-- `find_origins`: each turn puts one state more into the rows of what it reaches.
use native.Mathlib.Omega.{arith}
use Rattle.image_sections.proofs.Laws.Within.{own_states}
use Rattle.spelling_propose.proofs.Laws.Origins.{found_none}
use Rattle.spelling_propose.proofs.origins.find_origins.Goals as goal

pub loop-q-init : goal.loop-q-init
loop-q-init c =
    let i = c.args.edges.now.image in
    found_none i.words.now i.sections.states (omega (arith, own_states i.placed, i.placed.few))
