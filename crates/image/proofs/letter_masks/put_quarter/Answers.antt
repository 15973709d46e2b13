-- `letter_masks::put_quarter`: after i turns the rows are those of the first i tokens; a class's word without a bit would change none of them.
use mathlib.Core.Path.{◌≡◌, sym, ap, ◌∙◌}
use Prim.Native.Nat.{ℕ, suc, ◌+◌, ◌-◌, ◌*◌, ◌<◌}
use native.Mathlib.Numerals.{add-one}
use native.Mathlib.Omega.{arith}
use lib.ListN.{drop, get_or, length, length-drop, replicate, take}
use lib.Seq.{length-take-le, sets}
use Rattle.image.specs.Work.{quarter_part, with_state}
use Rattle.image.proofs.Laws.States.{no-state, no_token, quarter_long, token_more}
use Rattle.image.proofs.Laws.Stores.{part_written}
use Rattle.image.proofs.letter_masks.put_quarter.Goals as goal
use Rattle.image.proofs.letter_masks.put_quarter.Goals.{then-class-ne0, else-class-ne0}

pub loop-i-init : goal.loop-i-init
loop-i-init c =
    let a = c.args in
    let start = quarter_part a.width a.tokens.now 0 a.q in
    let n = 64 * a.width in
    let long = quarter_long a.width a.tokens.now 0 c.requires.0 a.q in
    let k : a.at + n - a.at ≡ n = omega arith in
    let part : length (take (a.at + n - a.at) (drop a.at a.words.now)) ≡ n =
    length-take-le (a.at + n - a.at) (drop a.at a.words.now) (omega (arith, c.requires.1, length-drop a.at a.words.now)) ∙ k in
    let cleared = c.fill.ensures.after (λ y e. e) ∙ ap (λ (m : ℕ). replicate {A = ℕ} m 0) part ∙ no_token a.width a.tokens.now c.requires.0 a.q in
    part_written a.words.now a.at (a.at + n - a.at) start c.fill.new.self (omega (arith, long, c.requires.1)) (omega (arith, long)) cleared

pub loop-i-preserved : goal.loop-i-preserved
loop-i-preserved c =
    let a = c.args in
    let l = c.loop-i in
    let class = get_or a.tokens.now (5 * l.i + 1 + a.q) 0 in
    let n = add-one l.i in
    let h : suc l.i < 64 * a.width = omega (arith, c.requires.3, c.loop-i-test.true) in
    let e : c.if-class-ne0.words ≡ with_state 64 a.width class (suc l.i) a.at l.words =
    elim c.if-class-ne0.branch [
      | then-class-ne0 w ↦ w.words-is ∙ w.put_state.ensures ∙ ap (λ (k : ℕ). with_state 64 a.width class k a.at l.words) n
      | else-class-ne0 w ↦ w.words-is ∙ sym (no-state 64 a.width (suc l.i) a.at l.words)
          ∙ ap (λ (k : ℕ). with_state 64 a.width k (suc l.i) a.at l.words) (sym w.if-class-ne0.false)
    ] in
    e ∙ ap (with_state 64 a.width class (suc l.i) a.at) l.invariant
    ∙ token_more a.width a.tokens.now l.i c.requires.0 h a.words.now a.at a.q c.requires.1
    ∙ ap (λ (k : ℕ). sets a.words.now a.at (quarter_part a.width a.tokens.now k a.q)) (sym n)

pub returns : goal.returns
returns c =
    let a = c.args in
    let l = c.loop-i in
    let e : l.i ≡ a.length = omega arith in
    l.invariant ∙ ap (λ (k : ℕ). sets a.words.now a.at (quarter_part a.width a.tokens.now k a.q)) e
