-- `rise`: what is left of the way up from depth k gives what the whole way gives.
use Rattle.std.proofs.Common.{◌≡◌, ℕ, [], ◌∷◌, refl, ap, ◌∙◌, arith}
use Rattle.model.specs.Models.Run.{rise_words}
use Rattle.run_word.specs.One.{table_masks}
use Rattle.run_word.proofs.Laws.Passes.{rise_again}
use Rattle.run_word.proofs.steps.rise.Goals as goal

pub loop-k-init : goal.loop-k-init
loop-k-init c = λ ws backs b s t. refl

pub loop-k-preserved : goal.loop-k-preserved
loop-k-preserved c = λ ws backs b s t.
    let l = c.loop-k in
    let a = c.args in
    rise_again ws a.any b s t a.table.now backs a.depth l.k a.live l.r c.loop-k-test.true (l.invariant ws backs b s t) c.along_at-moved.ensures c.gather_at-r.ensures

pub returns : goal.returns
returns c = λ ws backs b s t.
    let l = c.loop-k in
    let a = c.args in
    let e : 0 ≡ l.k = omega arith in
    ap (λ (k : ℕ). rise_words (table_masks ws a.any b s t a.table.now backs) k (l.r ∷ [])) e ∙ l.invariant ws backs b s t
