-- `masks::join_propagate`: each word is joined once, and no other word meanwhile.
use Rattle.tokens_masks.proofs.Joining.{Joining}
use Rattle.tokens_masks.proofs.masks.join_propagate.Given as goal

abbrev pub invariant-loop-n : goal.invariant-loop-n
invariant-loop-n l = Joining l.initial.masks l.n l.masks
