-- `put_union`: the four words of no byte are 0.
use mathlib.Core.Path.{ap, ◌∙◌}
use mathlib.Core.List.{List, ◌∷◌}
use Prim.Native.Nat.{ℕ, ◌*◌}
use lib.Seq.{sets}
use Rattle.rule_letters.proofs.Laws.Classes.{no_words}
use Rattle.rule.proofs.rows.put_union.Goals as goal

pub returns-clause-written : goal.returns-clause-written
returns-clause-written c =
    let a = c.args in
    let n = c.none in
    c.put_token.ensures.written ∙ ap (λ (ws : List ℕ). sets a.tokens.now (5 * a.n) (a.kind ∷ ws)) (no_words n.result n.ensures)
