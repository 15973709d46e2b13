-- Numbers as sets: 0 has no bit, a number with one is at least 1, masks of the same set are equal; and tests of some number below a bound.
use mathlib.Core.Path.{◌≡◌, refl, ap₂, subst}
use mathlib.Core.Logic.{◌⊎◌, inl, inr}
use mathlib.Core.Bool.{Bool, false, ◌||◌}
use Prim.Native.Nat.{ℕ, zero, suc, ◌+◌, ◌*◌, ◌≤◌, ◌<◌}
use native.Mathlib.Nat.{le_refl, le_of_suc-le-suc, not-suc-le-zero, zero-lt-suc, eq-or-lt_of_le}
use native.Mathlib.Omega.{arith}
use lib.Dec.{T}
use Rattle.model.specs.Bits.{bit, digit, mask}
use Rattle.model.specs.Models.Apart.{any_below}
use Rattle.model.proofs.Laws.Bool.{or_left, or_right, or_split}

pub bit_zero : (i : ℕ) → bit 0 i ≡ false
bit_zero zero = refl
bit_zero (suc i) = bit_zero i

pub no_bit : (i : ℕ) → T (bit 0 i) → ⊥
no_bit i h = subst T (bit_zero i) h

pub bit_some : (i n : ℕ) → T (bit n i) → 1 ≤ n
bit_some i zero h = absurd (no_bit i h)
bit_some i (suc n) h = omega arith

pub mask_same : (m : ℕ) (f g : ℕ → Bool) → ((x : ℕ) → x < m → f x ≡ g x) → mask m f ≡ mask m g
mask_same zero f g h = refl
mask_same (suc m) f g h =
    ap₂ (λ (b : Bool) (n : ℕ). digit b + 2 * n) (h zero (zero-lt-suc m)) (mask_same m (λ i. f (suc i)) (λ i. g (suc i)) (λ x l. h (suc x) (omega arith)))

-- ---- some number below n
pub below_in : (n : ℕ) (p : ℕ → Bool) (k : ℕ) → k < n → T (p k) → T (any_below n p)
below_in zero p k h t = absurd (not-suc-le-zero h)
below_in (suc n) p k h t = go (eq-or-lt_of_le (le_of_suc-le-suc h)) (λ l. below_in n p k l t)
  where
    go : (k ≡ n) ⊎ (k < n) → (k < n → T (any_below n p)) → T (p n || any_below n p)
    go (inl e) f = or_left (p n) (any_below n p) (subst (λ (x : ℕ). T (p x)) e t)
    go (inr l) f = or_right (p n) (any_below n p) (f l)

pub below_out : (n : ℕ) (p : ℕ → Bool) → T (any_below n p) → (k : ℕ) × (k < n) × T (p k)
below_out zero p h = absurd h
below_out (suc n) p h = go (or_split (p n) (any_below n p) h) (λ t. below_out n p t)
  where
    go : T (p n) ⊎ T (any_below n p) → (T (any_below n p) → (k : ℕ) × (k < n) × T (p k)) → (k : ℕ) × (k < suc n) × T (p k)
    go (inl t) f = (n, le_refl (suc n), t)
    go (inr t) f = let r = f t in (r.0, omega (arith, r.1), r.2)

pub below_same : (n : ℕ) (p q : ℕ → Bool) → ((k : ℕ) → k < n → p k ≡ q k) → any_below n p ≡ any_below n q
below_same zero p q h = refl
below_same (suc n) p q h = ap₂ ◌||◌ (h n (le_refl (suc n))) (below_same n p q (λ k l. h k (omega arith)))
