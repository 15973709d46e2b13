-- `write`: each turn writes one stretch more.
use Prim.Native.Nat.{◌-◌}
use Rattle.spelling_propose.proofs.Laws.Write.{Writing}
use Rattle.spelling_propose.proofs.write.write.Given as goal

abbrev pub invariant-loop-k : goal.invariant-loop-k
invariant-loop-k l = Writing l.origins.edges.now.image.words.now l.text l.start l.end l.kept l.initial.states l.k l.at l.states

abbrev pub decreases-loop-k : goal.decreases-loop-k
decreases-loop-k l = l.end - l.k
