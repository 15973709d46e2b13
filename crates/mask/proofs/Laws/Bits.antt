-- How a word's bit is read by a shift and made by one; the row of no bits.
use Rattle.std.proofs.Common.{◌≡◌, ℕ, zero, suc, ◌+◌, ◌*◌, ◌/◌, ◌%◌, ◌^◌, ◌<◌, false, eqb, List, [], ◌∷◌, get_or, replicate, sym, refl, ap, ◌∙◌, arith, pow_pos, shr-shr, w64, Fits}
use lib.Bits.{bit_and, and_mask}
use lib.Pow.{pow-lt}
use Rattle.model.specs.Bits.{bit}
use Rattle.model.specs.Models.Words.{Fit, value}
use Rattle.model.proofs.Laws.Bits.{bit_zero}

-- ---- a row of words: each fits, so all do
pub fit_row : (ws : List ℕ) → ((i : ℕ) → Fits w64 (get_or ws i 0)) → Fit ws
fit_row [] h = tt
fit_row (w ∷ ws) h = ((h 0).fits, fit_row ws (λ i. h (suc i)))

-- ---- a bit read by a shift
shifted_bit : (n i : ℕ) → bit n i ≡ eqb (n / 2 ^ i % 2) 1
shifted_bit n zero = let e : n % 2 ≡ n / 1 % 2 = omega arith in ap (λ (d : ℕ). eqb d 1) e
shifted_bit n (suc i) =
    let e : 1 + i ≡ suc i = omega arith in
    shifted_bit (n / 2) i ∙ ap (λ (d : ℕ). eqb (d % 2) 1) (shr-shr n 1 i ∙ ap (λ (k : ℕ). n / 2 ^ k) e)

pub read_bit : (n i : ℕ) → eqb (bit_and (n / 2 ^ i) 1) 1 ≡ bit n i
read_bit n i = ap (λ (d : ℕ). eqb d 1) (and_mask (n / 2 ^ i) 1) ∙ sym (shifted_bit n i)

-- ---- a bit made by a shift
pub one_shifted : (i : ℕ) → 1 * 2 ^ (i % 64) % 2 ^ 64 ≡ 2 ^ (i % 64)
one_shifted i =
    let h : i % 64 < 64 = omega arith in
    let p : 2 ^ (i % 64) < 2 ^ 64 = pow-lt h in
    omega arith

-- ---- the row of no bits
pub none_fit : (n : ℕ) → Fit (replicate n 0)
none_fit zero = tt
none_fit (suc n) = (pow_pos 64, none_fit n)

none_value : (n : ℕ) → value (replicate n 0) ≡ 0
none_value zero = refl
none_value (suc n) = ap (λ (v : ℕ). 0 + 2 ^ 64 * v) (none_value n)

pub none_bit : (n i : ℕ) → bit (value (replicate n 0)) i ≡ false
none_bit n i = ap (λ (v : ℕ). bit v i) (none_value n) ∙ bit_zero i
