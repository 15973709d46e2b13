-- `step`: each way out is a row of the table.
use mathlib.Core.Path.{ap}
use mathlib.Core.Bool.{not}
use borrow.Author.Rules.{rules}
use Rattle.mask.proofs.Laws.Bits.{fit_row}
use Rattle.watch.proofs.Laws.Rows.{goes, narrow, some_states, step_done, step_long, step_mask, step_other, step_past}
use Rattle.watch.proofs.step.Goals as goal

pub returns-in_default : goal.returns-in_default
returns-in_default c = step_other c.check.ensures c.in_default.is

pub returns-then-stretch-gt65535 : goal.returns-then-stretch-gt65535
returns-then-stretch-gt65535 c = step_long c.check.ensures c.in-Some.is c.if-stretch-gt65535.true

pub is_mask-requires : goal.is_mask-requires
is_mask-requires c = some_states c.check.ensures c.in-Some.is

pub returns-then-not-is_mask : goal.returns-then-not-is_mask
returns-then-not-is_mask c =
    let fits = fit_row c.args.mask.now (λ k. search rules) in
    step_mask c.check.ensures c.in-Some.is fits c.is_mask.ensures c.if-stretch-gt65535.false (ap not c.if-not-is_mask.true)

pub returns-then-at-length : goal.returns-then-at-length
returns-then-at-length c =
    let fits = fit_row c.args.mask.now (λ k. search rules) in
    step_past c.check.ensures c.in-Some.is fits c.is_mask.ensures (ap not c.if-not-is_mask.false) c.if-stretch-gt65535.false c.if-at-length.true

pub go_on-ran-requires : goal.go_on-ran-requires
go_on-ran-requires c =
    let fits = fit_row c.args.mask.now (λ k. search rules) in
    goes c.check.ensures c.in-Some.is fits c.is_mask.ensures (ap not c.if-not-is_mask.false) c.if-stretch-gt65535.false c.if-at-length.false

pub put_words-requires : goal.put_words-requires
put_words-requires c =
    let fits = fit_row c.args.mask.now (λ k. search rules) in
    let ready = goes c.check.ensures c.in-Some.is fits c.is_mask.ensures (ap not c.if-not-is_mask.false) c.if-stretch-gt65535.false c.if-at-length.false in
    (ready.long, narrow c.check.ensures c.in-Some.is)

pub returns : goal.returns
returns c =
    let fits = fit_row c.args.mask.now (λ k. search rules) in
    step_done c.check.ensures c.in-Some.is fits c.is_mask.ensures (ap not c.if-not-is_mask.false) c.if-stretch-gt65535.false c.if-at-length.false
    c.go_on-ran.ensures c.put_words.ensures
