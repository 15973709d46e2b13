-- `first_live`: the first source stands after the zeros below it (`lowest`), where a shift brings the live bit down; of no source, what is above.
use mathlib.Core.Path.{◌≡◌, sym, ap, ◌∙◌}
use Prim.Native.Nat.{ℕ, ◌+◌, ◌/◌, ◌^◌, ◌<◌}
use native.Mathlib.Omega.{arith}
use lib.Bits.{and_mask}
use lib.Count.{trailing_le, count_trailing_zeros}
use lib.Dec.{eqb}
use Rattle.model.specs.Bits.{bit}
use Rattle.model.specs.Models.Run.{ahead}
use Rattle.model.proofs.Laws.Bits.{no_bit}
use Rattle.model.proofs.Words.Back.{ahead_none}
use Rattle.model.proofs.Words.RowBits.{shifted}
use Rattle.run_back.proofs.Laws.Ahead.{lowest}
use Rattle.run_back.proofs.first_live.Goals as goal

pub returns : goal.returns
returns c =
    let a = c.args in
    let q = count_trailing_zeros 64 a.source in
    let e : q + 0 ≡ q = omega arith in
    let some : 0 < a.source = omega (arith, c.if-source-eq0.false) in
    ap (λ (n : ℕ). eqb n 1) (and_mask (a.live / 2 ^ q) 1) ∙ shifted a.live q 0 ∙ ap (bit a.live) e
    ∙ (lowest 64 a.above a.source a.live some c.ranges.source.fits).1
