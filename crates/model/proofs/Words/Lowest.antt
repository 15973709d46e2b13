-- THE LOWEST BIT OF A NUMBER that is not 0 stands where its trailing zeros end, digit by digit; without that bit the number is less.
use mathlib.Core.Path.{◌≡◌, refl, sym, ap, ◌∙◌}
use mathlib.Core.Logic.{⊎_elim}
use mathlib.Core.Bool.{Bool, true, false, not, ◌&&◌, and-false, true≢false}
use Prim.Native.Nat.{ℕ, zero, suc, ◌-◌, ◌/◌, ◌%◌, ◌^◌, ◌≤◌, ◌<◌}
use native.Mathlib.Nat.{eq-or-lt_of_le, le_of_suc-le-suc, not-suc-le-zero, pow-suc}
use native.Mathlib.Omega.{arith}
use borrow.Author.Tests.{eq-eqb}
use lib.Bits.{bit_and, and_le_l}
use lib.Count.{count_trailing_zeros, under}
use lib.Dec.{eqb}
use lib.Pow.{pow-lt}
use Rattle.model.specs.Bits.{bit}
use Rattle.model.proofs.Laws.Bool.{le_or_lt}
use Rattle.model.proofs.Words.Bits.{bit-and, bit_high, bit_not}
use Rattle.model.proofs.Words.Put.{bit_power}

-- bit k is set, and none below it
pub record Lowest (s k : ℕ) : Type 0 where
  pub here : bit s k ≡ true
  pub below : (i : ℕ) → i < k → bit s i ≡ false

pub lowest_bit : (n s : ℕ) → 0 < s → s < 2 ^ n → (count_trailing_zeros n s < n) × Lowest s (count_trailing_zeros n s)
unfolding count_trailing_zeros
lowest_bit zero s h l = absurd (omega arith)
lowest_bit (suc n) s h l = go (s % 2) refl (λ i. lowest_bit n (s / 2) i (omega (arith, pow-suc 2 n)))
  where
    rest : ℕ
    rest = count_trailing_zeros n (s / 2)

    go : (d : ℕ) → s % 2 ≡ d → (0 < s / 2 → (rest < n) × Lowest (s / 2) rest) → (under d rest < suc n) × Lowest s (under d rest)
    go zero e later = let r = later (omega arith) in (omega (arith, r.0), record { here = r.1.here; below = under_rest r.1.below })
      where
        under_rest : ((i : ℕ) → i < rest → bit (s / 2) i ≡ false) → (i : ℕ) → i < suc rest → bit s i ≡ false
        under_rest f zero k = rw e
        under_rest f (suc i) k = f i (le_of_suc-le-suc k)
    go (suc zero) e later = (omega arith, record { here = rw e; below = λ i k. absurd (not-suc-le-zero k) })
    go (suc (suc d)) e later = absurd (omega arith)

-- ---- a word without its bit k
abbrev pub without : ℕ → ℕ → ℕ
without s k = bit_and s (2 ^ 64 - 1 - 2 ^ k)

module _ (s k : ℕ) (fits : s < 2 ^ 64) (small : k < 64) where
  pub without_bit : (i : ℕ) → bit (without s k) i ≡ (bit s i && not (eqb i k))
  without_bit i = bit-and i s (2 ^ 64 - 1 - 2 ^ k) ∙ ⊎_elim past inside (le_or_lt 64 i)
    where
      past : 64 ≤ i → (bit s i && bit (2 ^ 64 - 1 - 2 ^ k) i) ≡ (bit s i && not (eqb i k))
      past h = rw (bit_high 64 s i fits h)

      inside : i < 64 → (bit s i && bit (2 ^ 64 - 1 - 2 ^ k) i) ≡ (bit s i && not (eqb i k))
      inside h = ap (λ (b : Bool). bit s i && b) (bit_not 64 i (2 ^ k) (pow-lt small) h ∙ ap not (bit_power k i))

  pub without_less : bit s k ≡ true → without s k < s
  without_less t = ⊎_elim (λ e. absurd (true≢false (sym t ∙ ap (λ (n : ℕ). bit n k) (sym e) ∙ gone))) (λ l. l) (eq-or-lt_of_le (and_le_l s (2 ^ 64 - 1 - 2 ^ k)))
    where
      gone : bit (without s k) k ≡ false
      gone = without_bit k ∙ rw (eq-eqb k k refl, and-false (bit s k))
