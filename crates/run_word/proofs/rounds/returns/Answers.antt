-- `returns`: what is left of the depths below k adds what all of them do.
use Rattle.std.proofs.Common.{◌≡◌, ℕ, [], ◌∷◌, refl, ap, ◌∙◌, arith}
use Rattle.model.specs.Models.Run.{returns_words}
use Rattle.run_word.specs.One.{table_masks}
use Rattle.run_word.proofs.Laws.Rounds.{returns_again}
use Rattle.run_word.proofs.rounds.returns.Goals as goal

pub loop-k-init : goal.loop-k-init
loop-k-init c = λ ws any b s t table. refl

pub loop-k-preserved : goal.loop-k-preserved
loop-k-preserved c = λ ws any b s t table.
    let l = c.loop-k in
    let a = c.args in
    returns_again (table_masks ws any b s t table a.backs.now) a.backs.now a.depth l.k (a.first ∷ []) (l.r ∷ [])
    (omega (arith, c.loop-k-test.true)) (λ i j. refl) (l.invariant ws any b s t table) c.return_at-r.ensures

pub returns : goal.returns
returns c = λ ws any b s t table.
    let l = c.loop-k in
    let a = c.args in
    let e : 0 ≡ l.k = omega arith in
    ap (λ (k : ℕ). returns_words (table_masks ws any b s t table a.backs.now) k (a.first ∷ []) (l.r ∷ [])) e ∙ l.invariant ws any b s t table
