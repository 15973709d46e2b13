-- `run_by`: at each turn what was noted and what is still to come is the whole list, and the words run on to the last ones (`Since`).
use Rattle.std.proofs.Common.{◌≡◌, ◌+◌, ◌%◌, ◌^◌, ap, length, take, ◌∙◌, arith, ℕ}
use Rattle.std.proofs.lemmas.List.Edits.{sets}
use Rattle.model.specs.Models.Run.{noted}
use Rattle.run_word.proofs.Laws.Cut.{take_bit}
use Rattle.run.specs.Work.{rule_masks}
use Rattle.run_word.proofs.Laws.Stretch.{at_next}
use Rattle.run.proofs.stretch.run_by.Goals as goal

pub step_by-requires : goal.step_by-requires
step_by-requires g c = let O = c.requires.0 in (record { steps = O.steps; whole = O.whole; sources = c.requires.1 }, c.requires.2)

pub loop-p-preserved : goal.loop-p-preserved
loop-p-preserved g c =
    let a = c.args in
    let l = c.loop-p in
    let b = c.step_by in
    let hit = c.is_live.result in
    let e : a.from.place + l.p + 1 ≡ a.from.place + (l.p + 1) = omega arith in
    at_next (rule_masks a.image.now a.width a.work.now.table) a.work.now.depth a.last a.from.place a.stretch.now c.requires.0.limits.small (take a.width b.new.live) l.invariant
    (omega arith) b.ensures.made hit (c.is_live.ensures ∙ take_bit a.width b.new.live a.last c.requires.0.within)
    (c.note-total.ensures.counted ∙ ap (λ (n : ℕ). (l.total + length (noted hit n)) % 2 ^ 64) e)
    (c.note-total.ensures.written ∙ ap (λ (n : ℕ). sets l.places l.total (noted hit n)) e)
