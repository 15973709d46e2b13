-- `compare::same_masks`: the depths passed are the same, of this depth the masks passed, and of this mask the words passed.
use mathlib.Core.Path.{◌≡◌}
use mathlib.Core.Bool.{true}
use Rattle.image_check.proofs.Laws.Compare.Masks.{SameDepths, SamePlanes, SameWords}
use Rattle.image_check.proofs.compare.same_masks.Given as goal

abbrev pub invariant-search : goal.invariant-search
invariant-search g l = (l.same ≡ true) × SameDepths l.words l.masks l.at l.width l.depths l.first g.row.N l.k

abbrev pub invariant-loop-which : goal.invariant-loop-which
invariant-loop-which g l = (l.same ≡ true) × SamePlanes l.words l.masks l.at l.width l.first g.row.N l.k l.which

abbrev pub invariant-loop-j : goal.invariant-loop-j
invariant-loop-j g l = (l.same ≡ true) × SameWords l.words l.row l.from l.j
