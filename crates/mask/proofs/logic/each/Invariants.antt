-- `each`: the words made so far are those of the operation, and each turn makes one more.
use Rattle.model.specs.Models.Words.{each_word}
use Rattle.mask.proofs.Laws.Filled.{Filled}
use Rattle.mask.proofs.logic.each.Given as goal

abbrev pub invariant-loop-i : goal.invariant-loop-i
invariant-loop-i g l = Filled 8 (each_word g.made l.a.words l.b.words) l.r.words l.i
