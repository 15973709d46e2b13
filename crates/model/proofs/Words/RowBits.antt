-- WHERE A BIT OF A ROW OF WORDS STANDS: bit i is bit i mod 64 of word i / 64. And the bits of a number shifted down.
use mathlib.Core.Path.{◌≡◌, sym, ap, ap₂, ◌∙◌}
use mathlib.Core.Bool.{false}
use mathlib.Core.List.{List, [], ◌∷◌}
use Prim.Native.Nat.{ℕ, zero, suc, ◌+◌, ◌*◌, ◌/◌, ◌%◌, ◌^◌, ◌≤◌, ◌<◌}
use native.Mathlib.Nat.{le_of_suc-le-suc, not-suc-le-zero, pow-suc}
use native.Mathlib.Omega.{arith}
use lib.Bits.{block_half, block_odd}
use lib.Dec.{eqb}
use lib.ListN.{get_or-eq_default, get_or, length}
use lib.Pow.{shr-shr}
use Rattle.model.specs.Bits.{bit}
use Rattle.model.specs.Models.Words.{Fit, value}
use Rattle.model.proofs.Laws.Bits.{bit_zero}

-- ---- a number by its low k digits and the rest
pub low_bit : (k i v r : ℕ) → i < k → bit (v * 2 ^ k + r) i ≡ bit r i
low_bit zero i v r h = absurd (not-suc-le-zero h)
low_bit (suc k) zero v r h = ap (λ (n : ℕ). eqb n 1) (block_odd v k r)
low_bit (suc k) (suc i) v r h = ap (λ (n : ℕ). bit n i) (block_half v k r) ∙ low_bit k i v (r / 2) (le_of_suc-le-suc h)

high_bit : (k i v r : ℕ) → r < 2 ^ k → bit (v * 2 ^ k + r) (k + i) ≡ bit v i
high_bit zero i v r h =
    let e : v * 1 + r ≡ v = omega arith in
    let d : 0 + i ≡ i = omega arith in
    ap₂ bit e d
high_bit (suc k) i v r h =
    let d : suc k + i ≡ suc (k + i) = omega arith in
    ap (bit (v * 2 ^ suc k + r)) d ∙ ap (λ (n : ℕ). bit n (k + i)) (block_half v k r)
    ∙ high_bit k i v (r / 2) (omega (arith, pow-suc 2 k))

-- ---- a row's low word, and the words above it
pub row_low : (w : ℕ) (ws : List ℕ) (i : ℕ) → i < 64 → bit (value (w ∷ ws)) i ≡ bit w i
row_low w ws i h =
    let e : w + 2 ^ 64 * value ws ≡ value ws * 2 ^ 64 + w = omega arith in
    ap (λ (n : ℕ). bit n i) e ∙ low_bit 64 i (value ws) w h

pub row_high : (w : ℕ) (ws : List ℕ) (i : ℕ) → w < 2 ^ 64 → bit (value (w ∷ ws)) (64 + i) ≡ bit (value ws) i
row_high w ws i f =
    let e : w + 2 ^ 64 * value ws ≡ value ws * 2 ^ 64 + w = omega arith in
    ap (λ (n : ℕ). bit n (64 + i)) e ∙ high_bit 64 i (value ws) w f

-- ---- BIT i OF A ROW is bit i mod 64 of word i / 64; past the row there is none
word_bit : (ws : List ℕ) (q r : ℕ) → Fit ws → r < 64 → bit (value ws) (64 * q + r) ≡ bit (get_or ws q 0) r
word_bit [] q r f h = bit_zero (64 * q + r) ∙ sym (bit_zero r)
word_bit (w ∷ ws) zero r f h =
    let d : 64 * 0 + r ≡ r = omega arith in
    ap (bit (value (w ∷ ws))) d ∙ row_low w ws r h
word_bit (w ∷ ws) (suc q) r f h =
    let d : 64 * suc q + r ≡ 64 + (64 * q + r) = omega arith in
    ap (bit (value (w ∷ ws))) d ∙ row_high w ws (64 * q + r) f.0 ∙ word_bit ws q r f.1 h

pub row_bit : (ws : List ℕ) (i : ℕ) → Fit ws → bit (value ws) i ≡ bit (get_or ws (i / 64) 0) (i % 64)
row_bit ws i f =
    let e : i ≡ 64 * (i / 64) + i % 64 = omega arith in
    ap (bit (value ws)) e ∙ word_bit ws (i / 64) (i % 64) f (omega arith)

pub row_past : (ws : List ℕ) (i : ℕ) → Fit ws → 64 * length ws ≤ i → bit (value ws) i ≡ false
row_past ws i f h = row_bit ws i f ∙ ap (λ (w : ℕ). bit w (i % 64)) (get_or-eq_default ws 0 (omega arith)) ∙ bit_zero (i % 64)

-- ---- a number shifted down by r
pub shifted : (n r j : ℕ) → bit (n / 2 ^ r) j ≡ bit n (r + j)
shifted n zero j =
    let e : n / 1 ≡ n = omega arith in
    let d : 0 + j ≡ j = omega arith in
    ap (λ (k : ℕ). bit k j) e ∙ sym (ap (bit n) d)
shifted n (suc r) j =
    let one : 1 + r ≡ suc r = omega arith in
    let d : suc r + j ≡ suc (r + j) = omega arith in
    ap (λ (k : ℕ). bit k j) (sym (shr-shr n 1 r ∙ ap (λ (i : ℕ). n / 2 ^ i) one)) ∙ shifted (n / 2) r j ∙ sym (ap (bit n) d)
