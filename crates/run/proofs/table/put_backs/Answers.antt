-- `put_backs`: each turn puts one row more (`backs_more`), and the section is whole.
use Prim.Native.Nat.{◌*◌}
use native.Mathlib.Omega.{arith}
use Rattle.model.proofs.Image.Address.{part_fits}
use Rattle.image_sections.proofs.Laws.Within.{backs_in, within}
use Rattle.run.proofs.table.put_backs.Goals as goal

pub row_at-requires : goal.row_at-requires
row_at-requires c =
    let I = within c.args.image.now.placed in
    (I.narrow, omega (arith, backs_in I, part_fits c.args.image.now.sections.width {k = c.loop-i.i} {n = 2 * c.args.image.now.sections.depth} c.loop-i-test.true))
