-- A stretch has at least one byte, and a watch goes no further than 4,294,967,295: what is left of that falls.
use mathlib.Core.Path.{◌≡◌}
use Prim.Native.Nat.{◌-◌, ◌^◌, ◌<◌}
use lib.ListN.{length}
use Rattle.follow.proofs.follow.Given as goal

abbrev pub invariant-loop-stretch : goal.invariant-loop-stretch
invariant-loop-stretch g l = (length l.text ≡ 45056) × (l.watching.total < 2 ^ 64)

abbrev pub decreases-loop-stretch : goal.decreases-loop-stretch
decreases-loop-stretch g l = 4294967296 - l.watching.place
