-- `begin`: each way out is a row of the table.
use borrow.Author.Rules.{rules}
use mathlib.Core.Path.{◌≡◌}
use lib.ListN.{length}
use Rattle.mask.proofs.Laws.Bits.{fit_row}
use Rattle.watch.proofs.Laws.Rows.{begin_done, begin_other, begin_words, narrow, some_states}
use Rattle.watch.proofs.begin.Goals as goal

pub returns-in_default : goal.returns-in_default
returns-in_default c = begin_other c.check.ensures c.in_default.is

pub overflow_sub-last : goal.overflow_sub-last
overflow_sub-last c = some_states c.check.ensures c.in-Some.is

pub returns-then-mask-width : goal.returns-then-mask-width
returns-then-mask-width c = begin_words c.check.ensures c.in-Some.is c.if-mask-width.true

pub put_words-requires : goal.put_words-requires
put_words-requires c = (c.if-mask-width.false, narrow c.check.ensures c.in-Some.is)

pub returns : goal.returns
returns c =
    let ok = c.begin-first.type_inv in
    let eight : length c.begin-first.result.words ≡ 8 = search rules in
    begin_done c.check.ensures c.in-Some.is c.if-mask-width.false c.begin-first.result.words eight
    (fit_row c.begin-first.result.words (λ i. search (rules, ok))) c.begin-first.ensures c.row_has_bit.result c.row_has_bit.ensures c.note-total.ensures.counted
    c.note-total.ensures.written c.put_words.ensures
