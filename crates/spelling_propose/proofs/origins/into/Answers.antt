-- `into`: each turn takes the states of one word more.
use mathlib.Core.Path.{◌≡◌}
use lib.ListN.{length}
use Rattle.mask.proofs.Laws.Bits.{fit_row}
use Rattle.spelling_propose.proofs.Laws.Origins.{gathered_all, gathered_more, gathered_none}
use borrow.Author.Rules.{rules}
use Rattle.spelling_propose.proofs.origins.into.Goals as goal

pub loop-i-init : goal.loop-i-init
loop-i-init c = let a = c.args in gathered_none a.rows.now a.row

pub loop-i-preserved : goal.loop-i-preserved
loop-i-preserved c =
    let a = c.args in
    gathered_more a.rows.now a.row (fit_row a.row (λ k. search rules)) c.loop-i.invariant c.into_word-more.result c.into_word-more.ensures

pub returns : goal.returns
returns c =
    let row = c.args.row in
    let long : length row ≡ 8 = search rules in
    gathered_all c.args.rows.now row (fit_row row (λ k. search rules)) long c.loop-i.invariant c.loop-i-test.false
