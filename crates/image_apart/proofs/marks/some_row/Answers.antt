-- `marks::some_row`: word j of the row has the bits that word j of some mask has.
use mathlib.Core.Path.{◌≡◌}
use native.Mathlib.Omega.{arith}
use Rattle.model.proofs.Image.Address.{part_fits}
use Rattle.image_sections.proofs.Laws.Within.{within}
use Rattle.image_apart.proofs.Laws.Rows.{row_all}
use Rattle.image_apart.proofs.marks.some_row.Goals as goal

pub returns : goal.returns
returns c =
    let a = c.args in
    let l = c.loop-j in
    let W = a.image.now.sections.width in
    let e : l.j ≡ W = omega arith in
    row_all a.image.now.words.now a.at a.stride W (within a.image.now.placed).narrow l.invariant e
    (λ k h. omega (arith, part_fits a.stride h, c.requires.0, c.requires.3))
