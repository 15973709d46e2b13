-- `fill`: from the last place down, each turn has one set more.
use borrow.Author.Rules.{rules}
use mathlib.Core.Path.{◌≡◌}
use lib.ListN.{length}
use Rattle.spelling_propose.proofs.Laws.Walk.{filling_all, filling_more, filling_none}
use Rattle.spelling_propose.proofs.write.fill.Goals as goal

pub loop-k-init : goal.loop-k-init
loop-k-init c =
    let a = c.args in
    let long : length a.sets.now ≡ 256 = search rules in
    filling_none a.origins.now.edges.now.image.words.now a.text.now a.lo a.hi a.set a.sets.now long c.requires.ordered

pub loop-k-preserved : goal.loop-k-preserved
loop-k-preserved c =
    let a = c.args in
    filling_more a.origins.now.edges.now.image.words.now a.text.now a.lo a.hi a.set c.requires c.loop-k.invariant c.loop-k-test.true c.back-before.result c.back-before.ensures

pub returns : goal.returns
returns c =
    let a = c.args in
    filling_all a.origins.now.edges.now.image.words.now a.text.now a.lo a.hi a.set c.loop-k.invariant c.loop-k-test.false
