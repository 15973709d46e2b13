-- `series_at`: after k turns it has the masks of k depths, and each turn puts one more.
use mathlib.Core.Path.{ap₂, ◌∙◌}
use mathlib.Core.List.{List}
use native.Mathlib.Omega.{arith}
use Prim.Native.Nat.{ℕ, ◌<◌}
use lib.ListN.{set}
use Rattle.run.proofs.Laws.Rows.{series_more}
use Rattle.run.proofs.table.series_at.Goals as goal

pub loop-k-preserved : goal.loop-k-preserved
loop-k-preserved c =
    let l = c.loop-k in
    let a = c.args in
    let k : l.k < 9 = omega (arith, c.requires.1, c.loop-k-test.true) in
    (omega arith, ap₂ (λ (t : List (List ℕ)) (w : List ℕ). set t l.k w) l.invariant.1 c.row_at.ensures ∙ series_more a.image.now a.at a.width a.which l.k k)
