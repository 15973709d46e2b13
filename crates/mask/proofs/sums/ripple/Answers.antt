-- `ripple`: the words made so far are those of the rule, and the carry is what goes into the next; each turn makes one more.
use Rattle.std.proofs.Common.{get_or, refl, w64, Fits, rules}
use Rattle.mask.proofs.Laws.Ripple.{rippled_more, rippled_take}
use Rattle.mask.proofs.sums.ripple.Goals as goal

pub loop-i-preserved : goal.loop-i-preserved
loop-i-preserved g c =
    let hx : Fits w64 (get_or c.args.a.words c.loop-i.i 0) = search rules in
    let hy : Fits w64 (get_or c.args.b.words c.loop-i.i 0) = search rules in
    rippled_more g.rule.word g.rule.out c.loop-i.invariant (search rules) (search rules) _ _ (search rules)
    (c.requires.1.1 _ _ _ c.step-word.result hx.fits hy.fits c.step-word.ensures)

pub returns : goal.returns
returns g c =
    rippled_take g.rule.word g.rule.out c.loop-i.invariant (search rules) (search rules) refl c.upto-i-end.ensures c.loop-i-test.false
