-- `below`: none of the 64 bytes lies below n, or all do, or a run from the first on.
use mathlib.Core.Path.{sym, ap, ◌∙◌}
use Prim.Native.Nat.{ℕ, ◌-◌}
use native.Mathlib.Omega.{arith}
use Rattle.rule_letters.proofs.Laws.Classes.{below_all, below_none, below_some, power_fits}
use Rattle.rule_letters.proofs.classes.below.Goals as goal

pub returns-then-n-base : goal.returns-then-n-base
returns-then-n-base c = let a = c.args in sym (below_none a.n a.base c.if-n-base.true)

pub returns-then-base-n : goal.returns-then-base-n
returns-then-base-n c = let a = c.args in sym (below_all a.n a.base c.if-base-n.true)

pub returns : goal.returns
returns c =
    let a = c.args in
    ap (λ (v : ℕ). v - 1) (power_fits (a.n - a.base) (omega arith)) ∙ sym (below_some a.n a.base c.if-base-n.false)
