-- `compare::same_repeats`: the masks of the bytes passed are the same, and of this byte the words passed are those of the letters at the loops' places.
use mathlib.Core.Path.{◌≡◌}
use mathlib.Core.Bool.{true}
use Prim.Native.Nat.{ℕ, ◌+◌, ◌*◌, ◌<◌}
use lib.Bits.{bit_and}
use lib.ListN.{get_or}
use Rattle.image_check.proofs.Laws.Compare.{SameTo}
use Rattle.image_check.proofs.Laws.Compare.Repeats.{looped_row}
use Rattle.image_check.proofs.compare.same_repeats.Given as goal

abbrev pub invariant-search : goal.invariant-search
invariant-search l =
    let p = l.image.sections in
    (l.same ≡ true) × SameTo l.image.words.now p.repeats (p.width * 256) p.width 256 (looped_row l.image.words.now p.letters p.width l.loops) l.byte

abbrev pub invariant-loop-j : goal.invariant-loop-j
invariant-loop-j l =
    (l.same ≡ true) × ((k : ℕ) → k < l.j → get_or l.words (l.repeats + k) 0 ≡ bit_and (get_or l.words (l.letters + k) 0) (get_or l.loops k 0))
