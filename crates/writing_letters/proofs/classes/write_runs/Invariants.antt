-- `write_runs`: the runs written and those left are the whole text, and at the end none are left.
use Prim.Native.Nat.{◌-◌}
use Rattle.model.specs.Models.Words.{value}
use Rattle.model.specs.Writing.{outside}
use Rattle.writing_letters.proofs.Laws.Runs.{Left}
use Rattle.writing_letters.proofs.classes.write_runs.Given as goal

abbrev pub invariant-loop-lo : goal.invariant-loop-lo
invariant-loop-lo l = Left (value l.class) (outside 256 (value l.class) 0) l.at l.initial.out l.p l.out l.lo

abbrev pub decreases-loop-lo : goal.decreases-loop-lo
decreases-loop-lo l = 256 - l.lo
