-- Each way out is a row of the table: no image, a text too long, or the ends that the run finds with the image that was checked.
use native.Mathlib.Omega.{arith}
use Rattle.run_word.proofs.Laws.Bytes.{all_bytes}
use Rattle.watcher.proofs.Laws.Match.{all_found, other, too_long}
use Rattle.watcher.proofs.match_ends.Goals as goal

pub returns-in_default : goal.returns-in_default
returns-in_default c = other c.check.ensures c.in_default.is

pub returns-then-text-gt65535 : goal.returns-then-text-gt65535
returns-then-text-gt65535 c = too_long c.check.ensures c.in-Some.is c.if-text-gt65535.true

pub find-total-requires : goal.find-total-requires
find-total-requires c = c.if-text-gt65535.false

pub returns : goal.returns
returns c =
    let known = c.type_inv.text in
    all_found c.check.ensures c.in-Some.is c.if-text-gt65535.false (all_bytes c.args.text.now (λ i. omega (arith, known i))) c.find-total.ensures
