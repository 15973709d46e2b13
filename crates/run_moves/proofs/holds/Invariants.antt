-- `holds`: the words passed hold those of the other mask.
use Rattle.run_moves.specs.Sets.{Holds}
use Rattle.run_moves.proofs.holds.Given as goal

abbrev pub invariant-loop-i : goal.invariant-loop-i
invariant-loop-i l = Holds l.i l.a.words l.b.words
