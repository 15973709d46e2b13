-- `insert_open`: the tokens that follow the open are moved on first, and the open is written before them.
use mathlib.Core.Path.{◌≡◌, ap, ◌∙◌}
use mathlib.Core.List.{List}
use Prim.Native.Nat.{ℕ, ◌+◌, ◌-◌, ◌*◌}
use native.Mathlib.Omega.{arith}
use lib.ListN.{drop, take}
use lib.Seq.{sets}
use Rattle.model.specs.Models.Tokens.{an_open}
use Rattle.tokens.specs.Rows.{token_words}
use Rattle.rule.proofs.Laws.Stores.{sets_before}
use Rattle.rule.proofs.rows.insert_open.Goals as goal

pub returns : goal.returns
returns c =
    let a = c.args in
    let l = a.tokens.now in
    let rest = take (5 * (a.to - a.from)) (drop (5 * a.from) l) in
    let i : 5 * (a.from + 1) ≡ 5 * a.from + 5 = omega arith in
    c.put_union.ensures.written
    ∙ ap (λ (t : List ℕ). sets t (5 * a.from) (token_words an_open)) (c.shift.ensures ∙ ap (λ (k : ℕ). sets l k rest) i)
    ∙ sets_before l (5 * a.from) (token_words an_open) rest
