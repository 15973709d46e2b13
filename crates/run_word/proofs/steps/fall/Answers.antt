-- `fall`: what is left of the way down gives what the whole way gives.
use Rattle.std.proofs.Common.{◌≡◌, ℕ, ◌-◌, [], ◌∷◌, ap, ◌∙◌, arith}
use Rattle.model.specs.Models.Run.{fall_words}
use Rattle.run_word.specs.One.{table_masks}
use Rattle.run_word.proofs.Laws.Passes.{fall_again}
use Rattle.run_word.proofs.steps.fall.Goals as goal

pub loop-k-init : goal.loop-k-init
loop-k-init c = λ ws backs b s t.
    let a = c.args in
    let e : a.depth - 0 ≡ a.depth = omega arith in
    ap (λ (n : ℕ). fall_words (table_masks ws a.any b s t a.table.now backs) n 0 (a.live ∷ [])) e

pub loop-k-preserved : goal.loop-k-preserved
loop-k-preserved c = λ ws backs b s t.
    let l = c.loop-k in
    let a = c.args in
    fall_again ws a.any b s t a.table.now backs a.depth l.k a.live l.r c.loop-k-test.true (l.invariant ws backs b s t) c.scatter_at-started.ensures c.along_at-r.ensures

pub returns : goal.returns
returns c = λ ws backs b s t.
    let l = c.loop-k in
    let a = c.args in
    let e : 0 ≡ a.depth - l.k = omega arith in
    ap (λ (n : ℕ). fall_words (table_masks ws a.any b s t a.table.now backs) n l.k (l.r ∷ [])) e ∙ l.invariant ws backs b s t
