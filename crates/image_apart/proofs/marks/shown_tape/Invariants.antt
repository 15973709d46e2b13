-- `shown_tape`: each turn stores one kind more, and changes none before it.
use mathlib.Core.Path.{◌≡◌}
use Prim.Native.Nat.{ℕ, ◌<◌}
use lib.ListN.{get_or, length as length_of}
use Rattle.image_apart.specs.Work.{kind_at}
use Rattle.image_apart.proofs.marks.shown_tape.Given as goal

abbrev pub invariant-loop-i : goal.invariant-loop-i
invariant-loop-i l = (length_of l.kinds ≡ 512) × ((k : ℕ) → k < l.i → get_or l.kinds k 0 ≡ kind_at l.marks k)
