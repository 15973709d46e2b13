-- An image lies in the words lent.
use Rattle.program_lines.proofs.Laws.Room.{build_fits, first}
use Rattle.explain.proofs.answer.Goals as goal

pub slice_bounds-image-end : goal.slice_bounds-image-end
slice_bounds-image-end c = (first (build_fits c.in-Ok.ensures).count c.build.auto.image).fits

pub slice_bounds-respond-end : goal.slice_bounds-respond-end
slice_bounds-respond-end c = (first (build_fits c.in-Ok.ensures).count c.build.auto.image).counted
