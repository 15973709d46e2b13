-- `ripple`: the words made so far are those of the rule, and the carry is what goes into the next; each turn makes one more.
use Rattle.mask.proofs.Laws.Ripple.{Rippled}
use Rattle.mask.proofs.sums.ripple.Given as goal

abbrev pub invariant-loop-i : goal.invariant-loop-i
invariant-loop-i g l = Rippled g.rule.word g.rule.out 8 l.a.words l.b.words l.r.words l.carry l.i
