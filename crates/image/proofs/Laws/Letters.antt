-- A MASK MADE STATE BY STATE: the mask of the states below m + 1 is that of the states below m, with bit m put in where state m is in the set.
use mathlib.Core.Path.{◌≡◌, refl, sym, ap₂, ◌∙◌, subst}
use mathlib.Core.Logic.{◌⊎◌, inl, inr}
use mathlib.Core.Bool.{Bool, true, false, ◌||◌, or-false}
use mathlib.Core.List.{List}
use Prim.Native.Nat.{ℕ, suc, ◌<◌}
use native.Mathlib.Nat.{eq-or-lt_of_le, le_of_suc-le-suc, le_refl}
use native.Mathlib.Omega.{arith}
use lib.Dec.{eqb, eqb_refl}
use lib.ListN.{length}
use Rattle.model.specs.Bits.{bit}
use Rattle.model.specs.Models.LayOut.{set}
use Rattle.model.specs.Models.Words.{Fit, put_bit, value}
use Rattle.model.proofs.Image.SameBits.{holds_one}
use Rattle.model.proofs.Laws.Bool.{is_true, unequal}
use Rattle.model.proofs.Words.Holds.{Holds, set_holds}
use Rattle.model.proofs.Words.Put.{put-bit, put_fit, put_length}

module _ (m : ℕ) (f : ℕ → Bool) (h : m < 512) where
  below : Holds m 8 (set m 8 f) f
  below = set_holds m 8 f (omega arith)

  -- a row of the states below m, of state m as the set has it, and of none above
  one_more : (r : List ℕ) → length r ≡ 8 → Fit r → ((x : ℕ) → x < m → bit (value r) x ≡ f x) → bit (value r) m ≡ f m
      → ((x : ℕ) → m < x → bit (value r) x ≡ false) → r ≡ set (suc m) 8 f
  one_more r long fit low here high =
      holds_one (suc m) 8 r (set (suc m) 8 f) f f
      (record { near = record { len = long; fit = fit; bits = λ x l. go x (eq-or-lt_of_le (le_of_suc-le-suc l)) }; none = high })
      (set_holds (suc m) 8 f (omega arith)) (λ x l. refl)
    where
      go : (x : ℕ) → (x ≡ m) ⊎ (x < m) → bit (value r) x ≡ f x
      go x (inl e) = subst (λ (y : ℕ). bit (value r) y ≡ f y) (sym e) here
      go x (inr l) = low x l

  pub set_without : f m ≡ false → set m 8 f ≡ set (suc m) 8 f
  set_without e =
      one_more (set m 8 f) below.near.len below.near.fit below.near.bits (below.none m (le_refl m) ∙ sym e) (λ x l. below.none x (omega arith))

  pub set_with : f m ≡ true → put_bit (set m 8 f) m ≡ set (suc m) 8 f
  set_with e =
      one_more (put_bit (set m 8 f) m) (put_length (set m 8 f) m ∙ below.near.len) (put_fit (set m 8 f) m below.near.fit) (λ x l.
      at x ∙ ap₂ ◌||◌ (below.near.bits x l) (unequal x m (λ q. omega arith)) ∙ or-false (f x))
      (at m ∙ ap₂ ◌||◌ (below.none m (le_refl m)) (is_true (eqb m m) (eqb_refl m)) ∙ sym e)
      (λ x l. at x ∙ ap₂ ◌||◌ (below.none x (omega arith)) (unequal x m (λ q. omega arith)))
    where
      at : (x : ℕ) → bit (value (put_bit (set m 8 f) m)) x ≡ (bit (value (set m 8 f)) x || eqb x m)
      at x = put-bit (set m 8 f) m x (omega (arith, below.near.len)) below.near.fit
