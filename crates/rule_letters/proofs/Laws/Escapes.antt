-- HEX DIGITS AND ESCAPES: what the models make of a list by its first byte.
use mathlib.Core.Path.{◌≡◌}
use mathlib.Core.Bool.{true, false}
use mathlib.Core.List.{List, ◌∷◌}
use Prim.Native.Nat.{ℕ, ◌+◌, ◌*◌, ◌≤◌, ◌<◌}
use native.Mathlib.Omega.{arith}
use Rattle.model.specs.Lists.{within}
use Rattle.model.specs.Bytes.{byte, hexadecimal, signs}
use Rattle.model.specs.Models.Reader.{bad, got, hex_value, read_escape, read_hex, read_hexes}
use Rattle.model.proofs.Laws.Bool.{le_false, le_true, unequal}

-- ---- the first hex digit x, whose value is v
module _ (lo x : ℕ) (xs : List ℕ) where
  module _ {v : ℕ} (e : v ≡ hex_value x) where
    pub hexes_go : hexadecimal x ≡ true → lo ≤ 16 * v + 15 → read_hexes lo (x ∷ xs) ≡ read_hex lo v xs
    hexes_go d l = rw (d, le_true lo (16 * hex_value x + 15) (omega arith), e)

  -- ---- an escape
  pub escape_low : within x (byte "-" ∷ signs) ≡ true → x < lo → read_escape lo (x ∷ xs) ≡ bad (x ∷ xs)
  escape_low d l = rw (d, le_false lo x l)

  pub escape_sign : within x (byte "-" ∷ signs) ≡ true → lo ≤ x → read_escape lo (x ∷ xs) ≡ got x xs
  escape_sign d l = rw (d, le_true lo x l)

  pub escape_other : within x (byte "-" ∷ signs) ≡ false → (x ≡ byte "x" → ⊥) → read_escape lo (x ∷ xs) ≡ bad (x ∷ xs)
  escape_other d n = rw (d, unequal x (byte "x") n)

  pub escape_number : x ≡ byte "x" → read_escape lo (x ∷ xs) ≡ read_hexes lo xs
  escape_number e = rw e
