-- `lowest`: no word before i has a bit.
use mathlib.Core.Path.{◌≡◌}
use native.Mathlib.Omega.{arith}
use lib.ListN.{length}
use Rattle.mask.proofs.Laws.Bits.{fit_row}
use Rattle.spelling_propose.proofs.Laws.Sets.{lowest_in, lowest_none}
use borrow.Author.Rules.{rules}
use Rattle.spelling_propose.proofs.sets.lowest.Goals as goal

pub returns-then-word-ne0 : goal.returns-then-word-ne0
returns-then-word-ne0 c =
    let row = c.args.row in
    let long : length row ≡ 8 = search rules in
    lowest_in row long (fit_row row (λ k. search rules)) c.loop-i.i c.loop-i-test.true c.if-word-ne0.true

pub returns : goal.returns
returns c =
    let row = c.args.row in
    let long : length row ≡ 8 = search rules in
    lowest_none row long (fit_row row (λ k. search rules)) (λ j h. c.loop-i.invariant j (omega (arith, c.loop-i-test.false)))
