-- THE BITS OF NUMBERS: of a mask, of `and`, `or`, `xor` and the complement; a number below 2 ^ m is its m bits.
-- Each is shown digit by digit from the last one on.
use mathlib.Core.Path.{◌≡◌, refl, ap, ap₂, ◌∙◌}
use mathlib.Core.Bool.{Bool, true, false, not, ◌&&◌, ◌||◌}
use Prim.Native.Nat.{ℕ, zero, suc, ◌+◌, ◌-◌, ◌*◌, ◌/◌, ◌%◌, ◌^◌, ◌≤◌, ◌<◌, min, max}
use native.Mathlib.Nat.{le_refl, le_of_suc-le-suc, not-suc-le-zero, pow-suc, zero-lt-suc}
use native.Mathlib.Omega.{arith}
use lib.Bits.{bit_and, bit_or, bit_xor, and_step, or_step, xor_step, differ}
use lib.Pow.{pow_pos}
use Rattle.model.specs.Bits.{bit, digit, mask}
use Rattle.model.proofs.Laws.Bits.{bit_zero}
use Rattle.model.proofs.Words.Ripple.{digit_small, last_digit, odd, odd_is}

-- a word and the words above it, as lib.Bits has the two parts of a number
pub swap : (a n : ℕ) → a + 2 ^ 64 * n ≡ n * 2 ^ 64 + a
swap a n = omega arith

-- ---- no bit of a number stands at or above its size
pub bit_high : (m n x : ℕ) → n < 2 ^ m → m ≤ x → bit n x ≡ false
bit_high zero n x h l = (let e : n ≡ 0 = omega arith in ap (λ (k : ℕ). bit k x) e) ∙ bit_zero x
bit_high (suc m) n zero h l = absurd (not-suc-le-zero l)
bit_high (suc m) n (suc x) h l = bit_high m (n / 2) x (omega (arith, pow-suc 2 m)) (omega arith)

-- two numbers with the same bits are equal
pub bit_ext : (m a b : ℕ) → a < 2 ^ m → b < 2 ^ m → ((i : ℕ) → i < m → bit a i ≡ bit b i) → a ≡ b
bit_ext zero a b ha hb h = omega arith
bit_ext (suc m) a b ha hb h =
    let halves = bit_ext m (a / 2) (b / 2) (omega (arith, pow-suc 2 m)) (omega (arith, pow-suc 2 m)) (λ i k. h (suc i) (omega arith)) in
    omega (arith, last_digit a, last_digit b, ap digit (h zero (zero-lt-suc m)))

-- ---- the bits of a mask are those of its set
pub bit_mask : (m i : ℕ) (f : ℕ → Bool) → i < m → bit (mask m f) i ≡ f i
bit_mask zero i f h = absurd (not-suc-le-zero h)
bit_mask (suc m) zero f h = odd_is (mask (suc m) f) (f zero) (omega (arith, digit_small (f zero)))
bit_mask (suc m) (suc i) f h = ap (λ (n : ℕ). bit n i) half ∙ bit_mask m i (λ j. f (suc j)) (le_of_suc-le-suc h)
  where
    half : mask (suc m) f / 2 ≡ mask m (λ j. f (suc j))
    half = omega (arith, digit_small (f zero))

pub mask_lt : (m : ℕ) (f : ℕ → Bool) → mask m f < 2 ^ m
mask_lt zero f = le_refl 1
mask_lt (suc m) f = omega (arith, digit_small (f zero), mask_lt m (λ j. f (suc j)), pow-suc 2 m)

-- ---- an operation that works digit by digit, as g does on two bits
module _ (op : ℕ → ℕ → ℕ) (f : ℕ → ℕ → ℕ) (g : Bool → Bool → Bool)
    (step : (a b : ℕ) → op a b ≡ op (a / 2) (b / 2) * 2 + f (a % 2) (b % 2))
    (digits : (p q : Bool) → f (digit p) (digit q) ≡ digit (g p q)) where
  op_digit : (a b : ℕ) → op a b ≡ op (a / 2) (b / 2) * 2 + digit (g (odd a) (odd b))
  op_digit a b =
      step a b ∙ ap₂ (λ (x y : ℕ). op (a / 2) (b / 2) * 2 + f x y) (last_digit a) (last_digit b)
      ∙ ap (λ (x : ℕ). op (a / 2) (b / 2) * 2 + x) (digits (odd a) (odd b))

  bit_op : (i a b : ℕ) → bit (op a b) i ≡ g (bit a i) (bit b i)
  bit_op zero a b = odd_is (op a b) (g (odd a) (odd b)) (omega (arith, op_digit a b, digit_small (g (odd a) (odd b))))
  bit_op (suc i) a b = ap (λ (n : ℕ). bit n i) half ∙ bit_op i (a / 2) (b / 2)
    where
      half : op a b / 2 ≡ op (a / 2) (b / 2)
      half = omega (arith, op_digit a b, digit_small (g (odd a) (odd b)))

pub bit-and : (i a b : ℕ) → bit (bit_and a b) i ≡ (bit a i && bit b i)
bit-and = bit_op bit_and min ◌&&◌ and_step go
  where
    go : (p q : Bool) → min (digit p) (digit q) ≡ digit (p && q)
    go true true = refl
    go true false = refl
    go false true = refl
    go false false = refl

pub bit-or : (i a b : ℕ) → bit (bit_or a b) i ≡ (bit a i || bit b i)
bit-or = bit_op bit_or max ◌||◌ or_step go
  where
    go : (p q : Bool) → max (digit p) (digit q) ≡ digit (p || q)
    go true true = refl
    go true false = refl
    go false true = refl
    go false false = refl

abbrev pub odd2 : Bool → Bool → Bool
odd2 true q = not q
odd2 false q = q

pub bit-xor : (i a b : ℕ) → bit (bit_xor a b) i ≡ odd2 (bit a i) (bit b i)
bit-xor = bit_op bit_xor differ odd2 xor_step go
  where
    go : (p q : Bool) → differ (digit p) (digit q) ≡ digit (odd2 p q)
    go true true = refl
    go true false = refl
    go false true = refl
    go false false = refl

-- ---- the complement in n bits
pub bit_not : (n i z : ℕ) → z < 2 ^ n → i < n → bit (2 ^ n - 1 - z) i ≡ not (bit z i)
bit_not zero i z h l = absurd (not-suc-le-zero l)
bit_not (suc n) zero z h l = odd_is (2 ^ suc n - 1 - z) (not (odd z)) (go (odd z) (last_digit z))
  where
    go : (b : Bool) → z % 2 ≡ digit b → (2 ^ suc n - 1 - z) % 2 ≡ digit (not b)
    go true e = omega (arith, pow-suc 2 n)
    go false e = omega (arith, pow-suc 2 n)
bit_not (suc n) (suc i) z h l = ap (λ (x : ℕ). bit x i) half ∙ bit_not n i (z / 2) (omega (arith, pow-suc 2 n)) (le_of_suc-le-suc l)
  where
    half : (2 ^ suc n - 1 - z) / 2 ≡ 2 ^ n - 1 - z / 2
    half = omega (arith, pow-suc 2 n, pow_pos n)
