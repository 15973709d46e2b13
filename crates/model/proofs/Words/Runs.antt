-- RUNS OF BITS at which the digits hand on what comes in: what is borrowed or carried is the same through the whole run.
use mathlib.Core.Path.{◌≡◌, refl, ap, ap₂, ◌∙◌, subst}
use mathlib.Core.Logic.{inl, inr}
use mathlib.Core.Bool.{Bool, true, false}
use Prim.Native.Nat.{ℕ, zero, suc, ◌≤◌, ◌<◌}
use native.Mathlib.Nat.{le_refl, eq-or-lt_of_le}
use native.Mathlib.Omega.{arith}
use Rattle.model.proofs.Words.Ripple.{borrow, difference_bits, into, odd3}

pub run : (f : Bool → Bool → Bool → Bool) (X Y : ℕ → Bool) (c v : Bool) (a b : ℕ) → into f X Y c a ≡ v
    → ((j : ℕ) → a ≤ j → j < b → f (X j) (Y j) v ≡ v) → (j : ℕ) → a ≤ j → j ≤ b → into f X Y c j ≡ v
run f X Y c v a b start same zero ha hb = let e : a ≡ 0 = omega arith in subst (λ (x : ℕ). into f X Y c x ≡ v) e start
run f X Y c v a b start same (suc j) ha hb =
    elim (eq-or-lt_of_le ha) [
      | inl e ↦ subst (λ (x : ℕ). into f X Y c x ≡ v) e start
      | inr l ↦ ap (f (X j) (Y j)) (run f X Y c v a b start same j (omega arith) (omega arith)) ∙ same j (omega arith) (omega arith)
    ]

-- ---- a segment from lo to hi of a difference: a bit of the minuend at hi, and one taken away at lo if v
module _ (X Y : ℕ → Bool) (v : Bool) (lo hi : ℕ) (lt : lo < hi) (none : into borrow X Y false lo ≡ false)
    (X-lo : X lo ≡ false) (Y-lo : Y lo ≡ v) (X-in : (j : ℕ) → lo < j → j < hi → X j ≡ false) (Y-in : (j : ℕ) → lo < j → j ≤ hi → Y j ≡ false)
    (X-hi : X hi ≡ true) where
  borrowed : (j : ℕ) → lo < j → j ≤ hi → into borrow X Y false j ≡ v
  borrowed =
      run borrow X Y false v (suc lo) hi ((λ i. borrow (X-lo i) (Y-lo i) (none i)) ∙ own v)
      (λ j h k. ap₂ (λ (x y : Bool). borrow x y v) (X-in j h k) (Y-in j h (omega arith)))
    where
      own : (u : Bool) → borrow false u false ≡ u
      own true = refl
      own false = refl

  -- from lo to hi the difference has v
  pub segment_bit : (j : ℕ) → lo ≤ j → j < hi → difference_bits X Y j ≡ v
  segment_bit j h k =
      elim (eq-or-lt_of_le h) [
        | inl e ↦ subst (λ (x : ℕ). difference_bits X Y x ≡ v) e ((λ i. odd3 (X-lo i) (Y-lo i) (none i)) ∙ own v)
        | inr l ↦ (λ i. odd3 (X-in j l k i) (Y-in j l (omega arith) i) (borrowed j l (omega arith) i))
      ]
    where
      own : (u : Bool) → odd3 false u false ≡ u
      own true = refl
      own false = refl

  -- and nothing is borrowed past hi
  pub segment_out : into borrow X Y false (suc hi) ≡ false
  segment_out = λ i. borrow (X-hi i) (Y-in hi lt (le_refl hi) i) (borrowed hi lt (le_refl hi) i)
