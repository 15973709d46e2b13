-- `move_on`: a state that begins no column lies in that of the state before it.
use mathlib.Core.Path.{◌≡◌, subst}
use Prim.Native.Nat.{ℕ, ◌-◌, ◌/◌}
use native.Mathlib.Omega.{arith}
use Rattle.image_classes.specs.Classes.{ColumnOf}
use Rattle.image_classes.proofs.move_on.Goals as goal

pub returns-else-state-eq0 : goal.returns-else-state-eq0
returns-else-state-eq0 c =
    let a = c.args in
    let e : (a.state - 1) / 64 ≡ a.state / 64 = omega (arith, c.if-state-eq0.false) in
    subst (λ (n : ℕ). ColumnOf a.image.now.words.now a.image.now.sections.width n a.classes.now) e c.requires.1
