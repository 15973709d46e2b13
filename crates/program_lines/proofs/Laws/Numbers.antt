-- HOW A NUMBER IS WRITTEN: with the fewest digits that hold it, so with at most k of them below 10 ^ k.
use mathlib.Core.Path.{◌≡◌, refl, ap₂}
use mathlib.Core.List.{List, [], ◌∷◌, ◌++◌}
use Prim.Native.Nat.{ℕ, zero, suc, ◌+◌, ◌*◌, ◌/◌, ◌%◌, ◌^◌, ◌≤◌, ◌<◌}
use native.Mathlib.Nat.{mod-lt, one-le-pow, pow-suc, suc-mul}
use native.Mathlib.Numerals.{unary_clauses}
use native.Mathlib.Omega.{arith}
use lib.Dec.{eqb}
use lib.ListN.{length, length-append}
use Rattle.io.specs.Digits.{last_digits, IsDigitCount, hex_digit_ascii}
use Rattle.model.specs.Bytes.{byte, bytes}
use Rattle.model.specs.Lists.{All}
use Rattle.model.proofs.Laws.Bool.{cond_cases, pick-le}
use Rattle.program_lines.specs.Lines.{decimal, digits_of, end_lines, line, refused_text}

-- so they read as usual
reads : (decimal 0 ≡ bytes "0") × (decimal 60 ≡ bytes "60") × (decimal 4294967296 ≡ bytes "4294967296")
reads = (refl, refl, refl)

-- ---- THE FEWEST DIGITS THAT HOLD A NUMBER ARE ITS DIGITS
last : (n : ℕ) → hex_digit_ascii (n % 10) ≡ byte "0" + n % 10
last n = pick-le (suc (n % 10)) 10 (48 + n % 10) (87 + n % 10) (mod-lt n (omega arith))

-- one fewer hold the number of tens
tens : (n k : ℕ) → n < 10 ^ suc k → (0 < k → 10 ^ k ≤ n) → IsDigitCount 10 0 (n / 10) k
tens n zero l h = (omega arith, omega (arith, l), λ z. absurd (omega arith))
tens n (suc k) l h =
    (omega arith, omega (arith, l, pow-suc 10 (suc k)), λ z. simp unary_clauses (omega (arith, h (omega arith), pow-suc 10 k)))

fewest : (most n k : ℕ) → n ≤ most → IsDigitCount 10 0 n k → last_digits 10 k n ≡ digits_of most n
fewest zero zero zero l F = refl
fewest (suc most) zero zero l F = refl
fewest most (suc n) zero l F = absurd (omega (arith, F.1))
fewest most zero (suc k) l F = absurd (omega (arith, simp unary_clauses at (F.2 (omega arith)), one-le-pow k 10 (omega arith)))
fewest zero (suc n) (suc k) l F = absurd (omega arith)
fewest (suc most) (suc n) (suc k) l F =
    ap₂ (λ (ds : List ℕ) (d : ℕ). ds ++ (d ∷ []))
    (fewest most (suc n / 10) k (omega arith) (tens (suc n) k F.1 (λ z. simp unary_clauses at (F.2 (omega arith))))) (last (suc n))

pub fewest_decimal : (n k : ℕ) → IsDigitCount 10 1 n k → last_digits 10 k n ≡ decimal n
fewest_decimal n zero F = absurd (omega (arith, F.0))
fewest_decimal n (suc k) F =
    ap₂ (λ (ds : List ℕ) (d : ℕ). ds ++ (d ∷ []))
    (fewest n (n / 10) k (omega arith) (tens n k F.1 (λ z. simp unary_clauses at (F.2 (omega arith))))) (last n)

-- ---- HOW LONG A NUMBER, A LINE AND LINES ARE
short : (most n k : ℕ) → n < 10 ^ k → length (digits_of most n) ≤ k
short zero n k l = omega arith
short (suc most) zero k l = omega arith
short (suc most) (suc n) zero l = absurd (omega (arith, l))
short (suc most) (suc n) (suc k) l =
    omega (arith, length-append (digits_of most (suc n / 10)) ((byte "0" + suc n % 10) ∷ []), short most (suc n / 10) k (omega (arith, l, pow-suc 10 k)))

pub number_short : (k n : ℕ) → n < 10 ^ suc k → length (line (decimal n)) ≤ k + 2
number_short k n l =
    omega (arith, length-append (decimal n) (10 ∷ []), length-append (digits_of n (n / 10)) ((byte "0" + n % 10) ∷ []), short n (n / 10) k (omega (arith, l, pow-suc 10 k)))

-- the line of a refusal
pub refused_short : (k n p : ℕ) → n < 100 → p < 10 ^ suc k → length (refused_text n p) ≤ k + 15
refused_short k n p l h =
    cond_cases (λ (t : List ℕ). length t ≤ k + 15) (eqb n 2) (λ e. omega (arith, number_short k p h)) (λ e. omega (arith, number_short 1 n l))

pub ends_short : (k : ℕ) (ps : List ℕ) → All (λ (p : ℕ). p < 10 ^ suc k) ps → length (end_lines ps) ≤ length ps * (k + 2)
ends_short k [] S = omega arith
ends_short k (p ∷ ps) S =
    omega (arith, length-append (line (decimal p)) (end_lines ps), number_short k p S.0, ends_short k ps S.1, suc-mul (length ps) (k + 2))
