-- The numbers of a tape: there are as many as tokens.
use mathlib.Core.Path.{◌≡◌, refl, ap}
use mathlib.Core.List.{List, [], ◌∷◌}
use Prim.Native.Nat.{ℕ, suc}
use lib.ListN.{length}
use Rattle.tokens_masks.specs.Tapes.{read_kinds}

pub read_length : (ks : List ℕ) → length (read_kinds ks) ≡ length ks
read_length [] = refl
read_length (k ∷ ks) = ap suc (read_length ks)
