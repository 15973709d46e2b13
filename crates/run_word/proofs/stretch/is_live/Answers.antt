-- `is_live`: a shift brings the bit down.
use Rattle.std.proofs.Common.{◌≡◌, ℕ, ◌+◌, ap, ◌∙◌, arith}
use Rattle.model.specs.Bits.{bit}
use Rattle.mask.proofs.Laws.Bits.{read_bit}
use Rattle.run_word.proofs.stretch.is_live.Goals as goal

pub returns : goal.returns
returns c =
    let a = c.args in
    let e : a.live ≡ a.live + 0 = omega arith in
    read_bit a.live a.state ∙ ap (λ (x : ℕ). bit x a.state) e
