-- `entered_row`: after k turns the row is that of the first k depths, and after the last of all of them.
use mathlib.Core.Path.{◌≡◌, ap, ◌∙◌}
use Prim.Native.Nat.{suc}
use native.Mathlib.Omega.{arith}
use Rattle.image_apart.specs.Work.{entered_row}
use Rattle.image_apart.proofs.marks.entered_row.Goals as goal

pub returns : goal.returns
returns c =
    let a = c.args.image.now in
    let p = a.sections in
    let all : c.loop-k.k ≡ suc p.depth = omega arith in
    c.loop-k.invariant ∙ ap (entered_row a.words.now p.propagate p.width) all
