-- `find`: what was found is the list of ends (`find_says`); a rule of one word finds the same on plain words (`one_same`).
use mathlib.Core.Path.{ap₂, ◌∙◌}
use Prim.Native.Nat.{ℕ, ◌-◌}
use native.Mathlib.Omega.{arith}
use Rattle.model.specs.Models.Run.{ends_with}
use Rattle.image_sections.proofs.Laws.Within.{own_depth, own_placed, own_states}
use Rattle.run_word.specs.One.{one_masks}
use Rattle.run_word.proofs.Laws.Bytes.{all_bytes}
use Rattle.run.specs.Work.{masks_of}
use Rattle.run.proofs.Image.Ends.{find_says}
use Rattle.run.proofs.Laws.One.{one_same}
use Rattle.run.proofs.ends.find.Goals as goal

pub returns-then-image-le64 : goal.returns-then-image-le64
returns-then-image-le64 c =
    let r = c.find in
    let a = c.args in
    let ws = a.image.now.words.now in
    let text = a.text.now in
    let P = a.image.now.placed in
    let bs = all_bytes text (λ i. omega (arith, c.type_inv.text i)) in
    find_says ws text a.ends.now r.result r.new.ends (ends_with (one_masks ws) a.image.now.sections.depth (a.image.now.sections.states - 1) text) bs
    (ap₂ (λ (i k : ℕ). ends_with (one_masks ws) i (k - 1) text) (own_depth P) (own_states P)
    ∙ one_same ws text (own_placed P) (omega (arith, own_states P, c.if-image-le64.true)) bs) r.ensures

pub returns : goal.returns
returns c =
    let r = c.find_words in
    let a = c.args in
    let ws = a.image.now.words.now in
    let text = a.text.now in
    let P = a.image.now.placed in
    find_says ws text a.ends.now r.result r.new.ends (ends_with (masks_of ws) a.image.now.sections.depth (a.image.now.sections.states - 1) text)
    (all_bytes text (λ i. omega (arith, c.type_inv.text i))) (ap₂ (λ (i k : ℕ). ends_with (masks_of ws) i (k - 1) text) (own_depth P) (own_states P)) r.ensures
