-- `letter_masks::put_state`: after b turns the rows of the first b bits have the state's bit where the class has them.
use mathlib.Core.Path.{◌≡◌, sym, ap, ◌∙◌}
use mathlib.Core.Bool.{Bool}
use Prim.Native.Nat.{ℕ, ◌+◌, ◌*◌, ◌/◌}
use native.Mathlib.Numerals.{add-one}
use native.Mathlib.Omega.{arith}
use lib.Bits.{bit_or}
use lib.ListN.{get_or, set}
use Rattle.mask.proofs.Laws.Bits.{one_shifted}
use Rattle.model.specs.Bits.{bit}
use Rattle.image.specs.Work.{with_bit, with_state}
use Rattle.image.proofs.Laws.States.{has_bit, has_not}
use Rattle.image.proofs.letter_masks.put_state.Goals as goal
use Rattle.image.proofs.letter_masks.put_state.Goals.{then-class-b-eq1, else-class-b-eq1}

pub returns : goal.returns
returns c =
    let a = c.args in
    let l = c.loop-b in
    let e : l.b ≡ 64 = omega arith in
    l.invariant ∙ ap (λ (k : ℕ). with_state k a.width a.class a.state a.at a.words.now) e

pub loop-b-preserved : goal.loop-b-preserved
loop-b-preserved c =
    let a = c.args in
    let l = c.loop-b in
    let place = a.at + a.width * l.b in
    let i = place + a.state / 64 in
    let e : c.if-class-b-eq1.words ≡ with_bit (bit a.class l.b) place a.state l.words =
    elim c.if-class-b-eq1.branch [
      | then-class-b-eq1 w ↦ w.words-is ∙ ap (λ (n : ℕ). set l.words i (bit_or (get_or l.words i 0) n)) (one_shifted a.state)
          ∙ ap (λ (t : Bool). with_bit t place a.state l.words) (sym (has_bit a.class l.b w.if-class-b-eq1.true))
      | else-class-b-eq1 w ↦ w.words-is ∙ ap (λ (t : Bool). with_bit t place a.state l.words) (sym (has_not a.class l.b w.if-class-b-eq1.false))
    ] in
    e ∙ ap (with_bit (bit a.class l.b) place a.state) l.invariant ∙ ap (λ (k : ℕ). with_state k a.width a.class a.state a.at a.words.now) (sym (add-one l.b))
