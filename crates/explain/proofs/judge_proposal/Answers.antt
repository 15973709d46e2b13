-- Where the answer is yes, the places lie in the journal and there is one state per byte.
use mathlib.Core.Path.{refl}
use native.Mathlib.Omega.{arith}
use lib.ListN.{length}
use Rattle.explain.proofs.Laws.{Lies, record_fits, right_lies}
use Rattle.explain.proofs.judge_proposal.Goals as goal
use Rattle.explain.proofs.judge_proposal.Goals.{In-Ok-true}

found : (c : In-Ok-true) → Lies c.args.journal.now c.args.start c.args.end (length c.args.states.now)
found c = right_lies (rw c.in-Ok-true.field-0-test at c.in-Ok-true.ensures)

pub slice_bounds-confirm-count : goal.slice_bounds-confirm-count
slice_bounds-confirm-count c = (found (goal.at.slice_bounds-confirm-count c).In-Ok-true).ordered

pub slice_bounds-confirm-start : goal.slice_bounds-confirm-start
slice_bounds-confirm-start c = omega (arith, found (goal.at.slice_bounds-confirm-start c).In-Ok-true)

pub slice_bounds-confirm-end : goal.slice_bounds-confirm-end
slice_bounds-confirm-end c = omega (arith, found (goal.at.slice_bounds-confirm-end c).In-Ok-true)

pub confirm-requires-clause-end_bound : goal.confirm-requires-clause-end_bound
confirm-requires-clause-end_bound c = record_fits (found (goal.at.confirm-requires-clause-end_bound c).In-Ok-true) refl
