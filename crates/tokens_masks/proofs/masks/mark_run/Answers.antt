-- `masks::mark_run`: the states from the place reached on, marked in what is marked so far, make the whole run.
use mathlib.Core.List.{List}
use mathlib.Core.Path.{sym, ap, ◌∙◌}
use Prim.Native.Nat.{ℕ, ◌+◌, ◌-◌}
use Rattle.tokens_masks.proofs.InWords.{one_run, run_end, run_step}
use Rattle.tokens_masks.specs.Masks.{row_number, run_row}
use Rattle.tokens_masks.proofs.masks.mark_run.Goals as goal

pub loop-state-preserved : goal.loop-state-preserved
loop-state-preserved c =
    let l = c.loop-state in
    let a = c.args in
    let r = row_number a.depth a.plane in
    ap (λ (ms : List ℕ). run_row (a.to - (l.state + 1)) ms r (l.state + 1)) (c.mark.ensures ∙ one_run l.masks r l.state)
    ∙ run_step l.masks r l.state a.to c.loop-state-test.true ∙ l.invariant

pub returns : goal.returns
returns c =
    let l = c.loop-state in
    let a = c.args in
    sym (run_end l.masks (row_number a.depth a.plane) l.state a.to c.loop-state-test.false) ∙ l.invariant
