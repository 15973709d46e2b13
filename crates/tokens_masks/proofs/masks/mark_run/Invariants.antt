-- `masks::mark_run`: the states from the place reached on, marked in what is marked so far, make the whole run.
use mathlib.Core.Path.{◌≡◌}
use Rattle.tokens_masks.specs.Masks.{run_in}
use Rattle.tokens_masks.proofs.masks.mark_run.Given as goal

abbrev pub invariant-loop-state : goal.invariant-loop-state
invariant-loop-state l = run_in l.masks l.plane l.depth l.state l.to ≡ run_in l.initial.masks l.plane l.depth l.initial.state l.to
