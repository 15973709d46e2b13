-- The fewest digits that hold the place: at most ten.
use mathlib.Core.Path.{◌≡◌, ap, ◌∙◌}
use native.Mathlib.Omega.{arith}
use lib.ListN.{length, take}
use Rattle.program_lines.specs.Lines.{decimal}
use Rattle.program_lines.proofs.Laws.Numbers.{fewest_decimal}
use Rattle.explain.proofs.Laws.{ten_digits}
use Rattle.explain.proofs.record.put_place.Goals as goal

pub returns : goal.returns
returns c =
    let d = c.decimal-length in
    let e : take d.result d.new.out ≡ decimal c.args.place = d.ensures.digits ∙ fewest_decimal c.args.place d.result d.ensures.len in
    omega (arith, ap length e, ten_digits c.args.place c.requires.1)
