-- THE FIRST SOURCE AHEAD: of m + n places the first m decide, and where they have none the n after them; the lowest source is the one below which a
-- number has only zeros.
use mathlib.Core.Path.{◌≡◌, refl, sym, ap, ◌∙◌, subst}
use mathlib.Core.Bool.{Bool, true, false, not, ◌&&◌, ◌||◌, and-false, cond, or-false}
use Prim.Native.Nat.{ℕ, zero, suc, ◌+◌, ◌^◌, ◌<◌}
use native.Mathlib.Omega.{arith}
use lib.Count.{count_trailing_zeros}
use lib.Dec.{T}
use Rattle.model.specs.Bits.{bit}
use Rattle.model.specs.Models.Run.{ahead}
use Rattle.model.proofs.Words.Back.{ahead_first}
use Rattle.model.proofs.Words.Lowest.{lowest_bit}

pub ahead_split : (m n : ℕ) (above : Bool) (c f : ℕ → Bool) (x : ℕ) → ahead (m + n) above c f x ≡ ahead m (ahead n above c f (m + x)) c f x
ahead_split zero n above c f x =
    let e : 0 + n ≡ n = omega arith in
    let i : x ≡ 0 + x = omega arith in
    ap (λ (k : ℕ). ahead k above c f x) e ∙ ap (ahead n above c f) i
ahead_split (suc m) n above c f x =
    let e : suc m + n ≡ suc (m + n) = omega arith in
    let i : m + suc x ≡ suc m + x = omega arith in
    ap (λ (k : ℕ). ahead k above c f x) e
    ∙ ap (cond (c x) (f x)) (ahead_split m n above c f (suc x) ∙ ap (λ (y : ℕ). ahead m (ahead n above c f y) c f (suc x)) i)

-- what is known above counts where there is no source
pub ahead_above : (n : ℕ) (above : Bool) (c f : ℕ → Bool) (x : ℕ) → ahead n above c f x ≡ (ahead n false c f x || (above && not (ahead n false c c x)))
ahead_above zero true c f x = refl
ahead_above zero false c f x = refl
ahead_above (suc n) above c f x =
    go (c x) (f x) (ahead n above c f (suc x)) (ahead n false c f (suc x)) (ahead n false c c (suc x)) (ahead_above n above c f (suc x))
  where
    go : (b v later first some : Bool) → later ≡ (first || (above && not some)) → cond b v later ≡ (cond b v first || (above && not (cond b b some)))
    go true v later first some e = sym (ap (λ (z : Bool). v || z) (and-false above) ∙ or-false v)
    go false v later first some e = e

-- ---- the lowest source is the first
pub lowest : (n : ℕ) (above : Bool) (s l : ℕ) → 0 < s → s < 2 ^ n → (count_trailing_zeros n s < n) × (bit l (count_trailing_zeros n s) ≡ ahead n above (bit s) (bit l) 0)
lowest n above s l h k =
    let m = lowest_bit n s h k in (
      m.0,
      sym (ahead_first n above (bit s) (bit l) 0 (count_trailing_zeros n s) (omega arith) (omega (arith, m.0)) (subst T (sym m.1.here) tt)
          (λ y a b t. subst T (m.1.below y b) t)),
    )
