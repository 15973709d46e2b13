-- The rows of joined tables.
use mathlib.Core.Path.{◌≡◌, refl, ap}
use mathlib.Core.List.{[], ◌∷◌}
use Prim.Native.Nat.{ℕ, zero, suc, ◌<◌}
use native.Mathlib.Nat.{le_of_suc-le-suc, not-suc-le-zero}
use native.Mathlib.Omega.{arith}
use lib.ListN.{get_or, length}
use Rattle.model.specs.Models.Words.{each_word}
use Rattle.tokens_masks.specs.Joins.{Join, join_tables, join_word}
use Rattle.tokens_masks.specs.Tables.{Table}

module _ (j : Join) where
  pub length_joined : (more bs : Table) → length more ≡ length bs → length (join_tables j more bs) ≡ length more
  length_joined [] bs e = refl
  length_joined (a ∷ more) [] e = absurd (omega arith)
  length_joined (a ∷ more) (b ∷ bs) e = ap suc (length_joined more bs (omega arith))

  pub joined_at : (more bs : Table) (k : ℕ) → length more ≡ length bs → k < length more
      → each_word (join_word j) (get_or more k []) (get_or bs k []) ≡ get_or (join_tables j more bs) k []
  joined_at [] bs k e h = absurd (not-suc-le-zero h)
  joined_at (a ∷ more) [] k e h = absurd (omega arith)
  joined_at (a ∷ more) (b ∷ bs) zero e h = refl
  joined_at (a ∷ more) (b ∷ bs) (suc k) e h = joined_at more bs k (omega arith) (le_of_suc-le-suc h)
