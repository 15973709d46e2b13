-- `letter_masks::put_repeats`: after the count the rows of the first bytes with the loops stand one after another; nothing is written over those read.
use mathlib.Core.Path.{ap, ◌∙◌}
use mathlib.Core.List.{List, [], ◌∷◌}
use Prim.Native.Nat.{ℕ, ◌+◌, ◌*◌, ◌-◌, ◌≤◌, ◌<◌}
use native.Mathlib.Nat.{mul_comm}
use native.Mathlib.Omega.{arith}
use lib.ListN.{length-set, set}
use lib.Seq.{sets}
use Rattle.model.specs.Image.{join, section}
use Rattle.model.proofs.Image.Rows.{join_same}
use Rattle.model.proofs.Image.Address.{part_fits}
use Rattle.image.proofs.Laws.Loops.{both_kept, both_long}
use Rattle.image.proofs.Laws.Parts.{parts_all, parts_more, parts_none}
use Rattle.image.specs.Work.{both_row}
use Rattle.image.proofs.letter_masks.put_repeats.Goals as goal

pub loop-b-init : goal.loop-b-init
loop-b-init c =
    let a = c.args in
    parts_none (λ b h.
    both_long a.width (set a.words.now (a.at - 1) (256 * a.width)) (a.from + a.width * b) a.loops c.requires.0
    (omega (arith, part_fits a.width h, length-set a.words.now (a.at - 1) (256 * a.width), c.requires.1, c.requires.2)) c.well_formed.1.1.1.1.0.1.0.1)

pub loop-b-preserved : goal.loop-b-preserved
loop-b-preserved c =
    let a = c.args in
    let l = c.loop-b in
    let counted = set a.words.now (a.at - 1) (256 * a.width) in
    let from = a.from + a.width * l.b in
    let fits : from + a.width ≤ a.at = omega (arith, part_fits a.width c.loop-b-test.true, c.requires.1) in
    parts_more l.invariant c.loop-b-test.true
    (c.put_both.ensures
    ∙ ap (sets l.words (a.at + a.width * l.b))
    (ap (λ (ws : List ℕ). both_row a.width ws from a.loops) l.invariant.are
    ∙ both_kept a.width counted a.at (join l.b 0 (λ k. both_row a.width counted (a.from + a.width * k) a.loops)) from a.loops fits))

pub returns : goal.returns
returns c =
    let a = c.args in
    let n = 256 * a.width in
    parts_all a.words.now a.at n c.loop-b.invariant (omega (arith, c.requires.1)) (mul_comm 256 a.width) (omega arith)
    ∙ ap (λ (ws : List ℕ). sets a.words.now (a.at - 1) (section ws))
    (join_same 256 0 (λ b. both_row a.width (set a.words.now (a.at - 1) n) (a.from + a.width * b) a.loops)
    (λ b. both_row a.width a.words.now (a.from + a.width * b) a.loops) (λ b h.
    both_kept a.width a.words.now (a.at - 1) (n ∷ []) (a.from + a.width * b) a.loops
    (omega (arith, part_fits a.width (let l : b < 256 = omega arith in l), c.requires.1))))
