-- `each`: the words made so far are those of the operation, and each turn makes one more.
use Rattle.std.proofs.Common.{◌≡◌, ◌+◌, ℕ, get_or, refl, set, subst, sym, rules}
use Rattle.model.specs.Models.Words.{each_word}
use Rattle.mask.proofs.Laws.Each.{each_more, each_take}
use Rattle.mask.proofs.Laws.Filled.{Filled}
use Rattle.mask.proofs.logic.each.Goals as goal

pub loop-i-preserved : goal.loop-i-preserved
loop-i-preserved g c =
    let a = c.args in
    let e : c.op.result ≡ g.made (get_or a.a.words c.loop-i.i 0) (get_or a.b.words c.loop-i.i 0) = c.requires.1.1 _ _ _ c.op.ensures in
    subst (λ (w : ℕ). Filled 8 (each_word g.made a.a.words a.b.words) (set c.loop-i.r.words c.loop-i.i w) (c.loop-i.i + 1)) (sym e)
    (each_more g.made a.a.words a.b.words (search rules) (search rules) c.loop-i.invariant (search rules))

pub returns : goal.returns
returns g c =
    let a = c.args in
    each_take g.made a.a.words a.b.words (search rules) (search rules) c.loop-i.invariant refl c.upto-i-end.ensures c.loop-i-test.false
