-- `next_in`: every byte passed is not in the class, and the lowest bit of what is left of a word is the next byte in it.
use mathlib.Core.Bool.{false}
use Prim.Native.Nat.{◌-◌, ◌≤◌}
use Rattle.model.specs.Models.Words.{value}
use Rattle.writing_letters.proofs.Laws.Runs.{All}
use Rattle.writing_letters.proofs.classes.next_in.Given as goal

abbrev pub invariant-loop-i : goal.invariant-loop-i
invariant-loop-i l = (l.b ≤ l.i) × All false (value l.class) l.b l.i

abbrev pub decreases-loop-i : goal.decreases-loop-i
decreases-loop-i l = 256 - l.i
