-- `unshift`: the words made so far are those of `unshift_words`; the last one has none after it.
use mathlib.Core.Path.{◌≡◌, ap, ◌∙◌, subst, sym}
use native.Mathlib.Omega.{arith}
use Prim.Native.Nat.{ℕ, suc, ◌+◌, ◌*◌, ◌/◌, ◌%◌, ◌^◌}
use lib.ListN.{get_or-eq_default, get_or, length}
use mir.Syntax.{w64}
use mir.Val.{Fits}
use Rattle.mask.proofs.Laws.Filled.{Filled, filled_all, filled_more}
use Rattle.run_edges.specs.Reach.{unshift_words}
use Rattle.run_edges.proofs.Laws.Back.{back_at, back_length, back-word}
use borrow.Author.Rules.{rules}
use Rattle.run_edges.proofs.unshift.Goals as goal

pub loop-i-preserved : goal.loop-i-preserved
loop-i-preserved c =
    let a = c.args.a in
    let i = c.loop-i.i in
    let x = get_or a i 0 in
    let y = get_or a (i + 1) 0 in
    let hx : Fits w64 x = search rules in
    let long : length a ≡ 8 = search rules in
    let e : i + 1 ≡ suc i = omega arith in (
      omega arith,
      filled_more _ c.loop-i.invariant.1 (omega arith)
          (back-word x y hx.fits ∙ ap (λ (n : ℕ). x / 2 + get_or a n 0 % 2 * 2 ^ 63) e ∙ sym (back_at a i (omega (arith, long)))),
    )

pub returns : goal.returns
returns c =
    let a = c.args.a in
    let long : length a ≡ 8 = search rules in
    let r = c.loop-i.r in
    let e : c.loop-i.i ≡ 7 = omega (arith, c.loop-i-test.false, c.loop-i.invariant.0) in
    let F = subst (λ (n : ℕ). Filled 8 (unshift_words a) r n) e c.loop-i.invariant.1 in
    let z : get_or a 8 0 ≡ 0 = get_or-eq_default a 0 (omega (arith, long)) in
    let d : get_or a 7 0 / 2 + 0 % 2 * 2 ^ 63 ≡ get_or a 7 0 / 2 = omega arith in
    filled_all (filled_more (get_or a 7 0 / 2) F (omega arith) (sym (back_at a 7 (omega (arith, long)) ∙ ap (λ (n : ℕ). get_or a 7 0 / 2 + n % 2 * 2 ^ 63) z ∙ d)))
    (omega arith) (back_length a ∙ long)
