-- `return_at`: where a test ends it nothing is added (`adds_none`, `adds_held`).
use Rattle.std.proofs.Common.{ℕ, ◌+◌, ◌*◌, false, [], ◌∷◌, get_or, sym, ap}
use Rattle.run_back.proofs.Laws.Adds.{adds_held, adds_none}
use Rattle.run_word.proofs.rounds.return_at.Goals as goal

pub returns-then-source-first-eq0 : goal.returns-then-source-first-eq0
returns-then-source-first-eq0 c =
    let a = c.args in
    let b = a.backs.now in
    ap (λ (w : ℕ). w ∷ []) (sym (adds_none (get_or b (2 * a.k) 0) a.first c.if-source-first-eq0.true a.live (get_or b (2 * a.k + 1) 0)))

pub returns-then-live-target : goal.returns-then-live-target
returns-then-live-target c =
    let a = c.args in
    let b = a.backs.now in
    ap (λ (w : ℕ). w ∷ []) (sym (adds_held false (get_or b (2 * a.k) 0) (get_or b (2 * a.k + 1) 0) a.first a.live c.ranges.live.fits c.if-live-target.true))
