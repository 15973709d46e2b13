-- `row_has_bit`: the bit of a row stands in one of its words, where a shift brings it down; past 512 there is no word, so no bit.
use Rattle.std.proofs.Common.{◌/◌, ◌%◌, get_or, sym, ◌∙◌, arith, rules}
use Rattle.std.proofs.lemmas.Bool.{le-ltb}
use Rattle.mask.proofs.Laws.Bits.{fit_row, read_bit}
use Rattle.model.proofs.Words.RowBits.{row_bit, row_past}
use Rattle.mask.proofs.bits.row_has_bit.Goals as goal

pub returns-then-i-lt512 : goal.returns-then-i-lt512
returns-then-i-lt512 c =
    let a = c.args in
    read_bit (get_or a.row (a.i / 64) 0) (a.i % 64) ∙ sym (row_bit a.row a.i (fit_row a.row (λ k. search rules)))

pub returns-else-i-lt512 : goal.returns-else-i-lt512
returns-else-i-lt512 c =
    let a = c.args in
    le-ltb a.i 512 (omega arith) ∙ sym (row_past a.row a.i (fit_row a.row (λ k. search rules)) (omega arith))
