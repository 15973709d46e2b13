-- SINGLES AND RANGES: what the models make of a list by its first byte.
use mathlib.Core.Path.{◌≡◌}
use mathlib.Core.Bool.{true, false}
use mathlib.Core.List.{List, ◌∷◌}
use Prim.Native.Nat.{ℕ, ◌≤◌, ◌<◌}
use Rattle.model.specs.Bytes.{byte}
use Rattle.model.specs.Grammar.{bare, span}
use Rattle.model.specs.Models.Reader.{bad, got, read_escape, read_single}
use Rattle.model.proofs.Laws.Bool.{le_false, le_true, unequal}
use Rattle.rule_letters.specs.Classes.{after_lower}

module _ (lo x : ℕ) (xs : List ℕ) where
  -- ---- a single
  pub single_low : bare x ≡ true → x < lo → read_single lo (x ∷ xs) ≡ bad (x ∷ xs)
  single_low d l = rw (d, le_false lo x l)

  pub single_bare : bare x ≡ true → lo ≤ x → read_single lo (x ∷ xs) ≡ got x xs
  single_bare d l = rw (d, le_true lo x l)

  pub single_other : bare x ≡ false → (x ≡ byte "\\" → ⊥) → read_single lo (x ∷ xs) ≡ bad (x ∷ xs)
  single_other d n = rw (d, unequal x (byte "\\") n)

  pub single_escape : x ≡ byte "\\" → read_single lo (x ∷ xs) ≡ read_escape lo xs
  single_escape e = rw e

  -- ---- after the single lo
  pub lower_alone : (x ≡ byte "-" → ⊥) → after_lower lo (x ∷ xs) ≡ got (span lo lo) (x ∷ xs)
  lower_alone n = rw (unequal x (byte "-") n)
