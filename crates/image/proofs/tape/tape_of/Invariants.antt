-- `tape_of`: each turn stores one kind more, and changes none before it.
use mathlib.Core.Path.{◌≡◌}
use Prim.Native.Nat.{ℕ, ◌*◌, ◌<◌}
use lib.ListN.{get_or, length as length_of}
use Rattle.tokens.specs.Kinds.{kind_in}
use Rattle.image.proofs.tape.tape_of.Given as goal

abbrev pub invariant-loop-i : goal.invariant-loop-i
invariant-loop-i l = (length_of l.kinds ≡ 512) × ((k : ℕ) → k < l.i → get_or l.kinds k 0 ≡ kind_in (get_or l.tokens (5 * k) 0))
