-- `letter_masks::put_letters`: after the count the rows of one word of the classes after another stand, and the four of them are those of all bytes.
use mathlib.Core.Path.{◌≡◌, ap, ◌∙◌}
use mathlib.Core.List.{List}
use Prim.Native.Nat.{ℕ, ◌*◌, ◌-◌}
use native.Mathlib.Omega.{arith}
use lib.Seq.{sets}
use Rattle.model.specs.Image.{section}
use Rattle.image.proofs.Laws.Parts.{parts_all, parts_more, parts_none}
use Rattle.image.proofs.Laws.States.{quarter_long, quarters}
use Rattle.image.proofs.letter_masks.put_letters.Goals as goal

pub loop-q-init : goal.loop-q-init
loop-q-init c =
    let a = c.args in
    parts_none (λ q h. quarter_long a.width a.tokens.now a.length c.requires.0 q)

pub loop-q-preserved : goal.loop-q-preserved
loop-q-preserved c =
    parts_more c.loop-q.invariant c.loop-q-test.true c.put_quarter.ensures

pub returns : goal.returns
returns c =
    let a = c.args in
    let e : 256 * a.width ≡ 64 * a.width * 4 = omega arith in
    parts_all a.words.now a.at (256 * a.width) c.loop-q.invariant c.requires.1 e (omega arith)
    ∙ ap (λ (ws : List ℕ). sets a.words.now (a.at - 1) (section ws)) (quarters a.width a.tokens.now a.length)
