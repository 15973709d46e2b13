-- EACH STATE BACK BY ONE: a row so shifted is half the number, so bit x is bit x + 1 of the row.
use mathlib.Core.Path.{◌≡◌, refl, ap, ap₂, ◌∙◌}
use mathlib.Core.List.{List, [], ◌∷◌}
use Prim.Native.Nat.{ℕ, zero, suc, ◌+◌, ◌*◌, ◌/◌, ◌%◌, ◌^◌, ◌<◌}
use native.Mathlib.Nat.{le_of_suc-le-suc, not-suc-le-zero}
use native.Mathlib.Omega.{arith}
use lib.Bits.{bit_or, or_shifted_r}
use lib.ListN.{get_or, length}
use Rattle.model.specs.Bits.{bit}
use Rattle.model.specs.Models.Words.{Fit, value}
use Rattle.run_edges.specs.Reach.{unshift_words}

-- a word with the lowest bit of the next, as the code makes it
pub back-word : (x y : ℕ) → x < 2 ^ 64 → bit_or (x / 2 ^ 1) (y * 2 ^ 63 % 2 ^ 64) ≡ x / 2 + y % 2 * 2 ^ 63
back-word x y h =
    let a : x / 2 ^ 1 ≡ x / 2 = omega arith in
    let b : y * 2 ^ 63 % 2 ^ 64 ≡ y % 2 * 2 ^ 63 = omega arith in
    let l : x / 2 < 2 ^ 63 = omega arith in
    ap₂ bit_or a b ∙ or_shifted_r (y % 2) 63 (x / 2) l ∙ (let s : y % 2 * 2 ^ 63 + x / 2 ≡ x / 2 + y % 2 * 2 ^ 63 = omega arith in s)

pub back_length : (xs : List ℕ) → length (unshift_words xs) ≡ length xs
back_length [] = refl
back_length (x ∷ xs) = ap suc (back_length xs)

pub back_at : (xs : List ℕ) (i : ℕ) → i < length xs → get_or (unshift_words xs) i 0 ≡ get_or xs i 0 / 2 + get_or xs (suc i) 0 % 2 * 2 ^ 63
back_at [] i h = absurd (not-suc-le-zero h)
back_at (x ∷ xs) zero h = refl
back_at (x ∷ xs) (suc i) h = back_at xs i (le_of_suc-le-suc h)

pub back_fit : (xs : List ℕ) → Fit xs → Fit (unshift_words xs)
back_fit [] f = tt
back_fit (x ∷ xs) f = (omega (arith, f.0), back_fit xs f.1)

low : (xs : List ℕ) → get_or xs 0 0 % 2 ≡ value xs % 2
low [] = refl
low (x ∷ xs) = let e : x % 2 ≡ (x + 2 ^ 64 * value xs) % 2 = omega arith in e

back_value : (xs : List ℕ) → Fit xs → value (unshift_words xs) ≡ value xs / 2
back_value [] f = refl
back_value (x ∷ xs) f =
    let v = value xs in
    ap₂ (λ (a b : ℕ). x / 2 + a * 2 ^ 63 + 2 ^ 64 * b) (low xs) (back_value xs f.1)
    ∙ (let e : x / 2 + v % 2 * 2 ^ 63 + 2 ^ 64 * (v / 2) ≡ (x + 2 ^ 64 * v) / 2 = omega arith in e)

pub back_bit : (xs : List ℕ) (x : ℕ) → Fit xs → bit (value (unshift_words xs)) x ≡ bit (value xs) (suc x)
back_bit xs x f = ap (λ (n : ℕ). bit n x) (back_value xs f)
