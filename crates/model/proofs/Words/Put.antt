-- ONE BIT MORE IN A ROW OF WORDS: the number that the words make has that bit more, and each of them is still a word.
use mathlib.Core.Path.{◌≡◌, refl, sym, ap, ap₂, ◌∙◌}
use mathlib.Core.Bool.{Bool, ◌||◌}
use mathlib.Core.List.{List, [], ◌∷◌}
use Prim.Native.Nat.{ℕ, zero, suc, ◌+◌, ◌*◌, ◌/◌, ◌%◌, ◌^◌, ◌≤◌, ◌<◌}
use native.Mathlib.Nat.{le_of_suc-le-suc, not-suc-le-zero, pow-suc}
use native.Mathlib.Omega.{arith}
use lib.Bits.{bit_or, or_block, or_lt, or_zero_r}
use lib.Dec.{eqb, eqb-suc-suc, eqb-suc-zero, eqb-zero-suc}
use lib.ListN.{get_or, length, length-set, set}
use lib.Pow.{pow-add, pow-lt, pow_pos}
use lib.Seq.{set_out}
use Rattle.model.specs.Bits.{bit}
use Rattle.model.specs.Models.Words.{Fit, put_bit, value}
use Rattle.model.proofs.Laws.Bits.{bit_zero}
use Rattle.model.proofs.Words.Bits.{bit-or, swap}

-- the word that bit i stands in, with that bit
abbrev new_word : List ℕ → ℕ → ℕ
new_word ws i = bit_or (get_or ws (i / 64) 0) (2 ^ (i % 64))

pub put_length : (ws : List ℕ) (i : ℕ) → length (put_bit ws i) ≡ length ws
put_length ws i = length-set ws (i / 64) (new_word ws i)

pub put_past : (ws : List ℕ) (i : ℕ) → 64 * length ws ≤ i → put_bit ws i ≡ ws
put_past ws i h = set_out ws (i / 64) (new_word ws i) (omega arith)

-- ---- the number that the words make
value_set : (ws : List ℕ) (i r : ℕ) → i < length ws → r < 64 → Fit ws
    → value (set ws i (bit_or (get_or ws i 0) (2 ^ r))) ≡ bit_or (value ws) (2 ^ (64 * i + r))
value_set [] i r h l f = absurd (not-suc-le-zero h)
value_set (w ∷ ws) zero r h l f =
    swap (bit_or w (2 ^ r)) (value ws)
    ∙ ap (λ (n : ℕ). n * 2 ^ 64 + bit_or w (2 ^ r)) (sym (or_zero_r (value ws)))
    ∙ sym (or_block 64 (value ws) 0 w (2 ^ r) f.0 (pow-lt l))
    ∙ ap₂ bit_or (sym (swap w (value ws)))
    (let e : 0 * 2 ^ 64 + 2 ^ r ≡ 2 ^ r = omega arith in e ∙ (let d : r ≡ 64 * 0 + r = omega arith in ap (λ (n : ℕ). 2 ^ n) d))
value_set (w ∷ ws) (suc i) r h l f =
    ap (λ (n : ℕ). w + 2 ^ 64 * n) (value_set ws i r (le_of_suc-le-suc h) l f.1)
    ∙ swap w (bit_or (value ws) (2 ^ (64 * i + r)))
    ∙ ap (λ (n : ℕ). bit_or (value ws) (2 ^ (64 * i + r)) * 2 ^ 64 + n) (sym (or_zero_r w))
    ∙ sym (or_block 64 (value ws) (2 ^ (64 * i + r)) w 0 f.0 (pow_pos 64))
    ∙ ap₂ bit_or (sym (swap w (value ws)))
    (let e : 2 ^ (64 * i + r) * 2 ^ 64 + 0 ≡ 2 ^ 64 * 2 ^ (64 * i + r) = omega arith in e
    ∙ sym (pow-add 2 64 (64 * i + r)) ∙ (let d : 64 + (64 * i + r) ≡ 64 * suc i + r = omega arith in ap (λ (n : ℕ). 2 ^ n) d))

pub bit_power : (x y : ℕ) → bit (2 ^ x) y ≡ eqb y x
bit_power zero zero = refl
bit_power zero (suc y) = bit_zero y ∙ sym (eqb-suc-zero y)
bit_power (suc x) zero = ap (λ (n : ℕ). eqb n 1) (let e : 2 ^ suc x % 2 ≡ 0 = omega (arith, pow-suc 2 x) in e) ∙ sym (eqb-zero-suc x)
bit_power (suc x) (suc y) =
    ap (λ (n : ℕ). bit n y) (let e : 2 ^ suc x / 2 ≡ 2 ^ x = omega (arith, pow-suc 2 x) in e) ∙ bit_power x y ∙ sym (eqb-suc-suc y x)

-- THE BITS
pub put-bit : (ws : List ℕ) (i j : ℕ) → i < 64 * length ws → Fit ws → bit (value (put_bit ws i)) j ≡ (bit (value ws) j || eqb j i)
put-bit ws i j h f =
    ap (λ (n : ℕ). bit n j)
    (value_set ws (i / 64) (i % 64) (omega arith) (omega arith) f
    ∙ (let e : 64 * (i / 64) + i % 64 ≡ i = omega arith in ap (λ (n : ℕ). bit_or (value ws) (2 ^ n)) e))
    ∙ bit-or j (value ws) (2 ^ i) ∙ ap (λ (b : Bool). bit (value ws) j || b) (bit_power i j)

-- ---- words stay words
fit_set : (ws : List ℕ) (i v : ℕ) → Fit ws → v < 2 ^ 64 → Fit (set ws i v)
fit_set [] i v h l = tt
fit_set (w ∷ ws) zero v h l = (l, h.1)
fit_set (w ∷ ws) (suc i) v h l = (h.0, fit_set ws i v h.1 l)

pub fit_at : (ws : List ℕ) (i : ℕ) → Fit ws → get_or ws i 0 < 2 ^ 64
fit_at [] i h = pow_pos 64
fit_at (w ∷ ws) zero h = h.0
fit_at (w ∷ ws) (suc i) h = fit_at ws i h.1

pub put_fit : (ws : List ℕ) (i : ℕ) → Fit ws → Fit (put_bit ws i)
put_fit ws i f =
    let h : i % 64 < 64 = omega arith in
    fit_set ws (i / 64) (new_word ws i) f (or_lt 64 (get_or ws (i / 64) 0) (2 ^ (i % 64)) (fit_at ws (i / 64) f) (pow-lt h))
