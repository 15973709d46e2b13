-- WHEN THE BACK EDGES OF A WORD ADD NOTHING: no source in it is live and none above; or every target is live already, for what they add is among the
-- targets.
use mathlib.Core.Path.{◌≡◌, refl, sym, ap, ◌∙◌}
use mathlib.Core.Bool.{Bool, true, false, ◌&&◌, ◌||◌, and-false, cond}
use Prim.Native.Nat.{ℕ, zero, suc, ◌^◌, ◌<◌}
use lib.Bits.{bit_and, bit_or, or_lt, or_zero_r}
use Rattle.model.specs.Bits.{bit}
use Rattle.model.specs.Models.Run.{ahead, back_word}
use Rattle.model.proofs.Laws.Bits.{bit_zero, mask_same}
use Rattle.model.proofs.Words.Bits.{bit-and, bit_ext, bit_mask, bit-or, mask_lt}

ahead_dark : (n : ℕ) (c f : ℕ → Bool) → ((x : ℕ) → (c x && f x) ≡ false) → (x : ℕ) → ahead n false c f x ≡ false
ahead_dark zero c f h x = refl
ahead_dark (suc n) c f h x = go (c x) (f x) (h x) (ahead_dark n c f h (suc x))
  where
    go : (b v : Bool) {later : Bool} → (b && v) ≡ false → later ≡ false → cond b v later ≡ false
    go true v e d = e
    go false v e d = d

module _ (s l : ℕ) (none : bit_and s l ≡ 0) where
  pub no_source : (x : ℕ) → ahead 64 false (bit s) (bit l) x ≡ false
  no_source = ahead_dark 64 (bit s) (bit l) (λ x. sym (bit-and x s l) ∙ ap (λ (n : ℕ). bit n x) none ∙ bit_zero x)

  pub adds_none : (v t : ℕ) → bit_or v (back_word false s t l) ≡ v
  adds_none v t =
      ap (bit_or v) (mask_same 64 (λ x. bit t x && ahead 64 false (bit s) (bit l) x) (λ x. false)
      (λ x h. ap (λ (b : Bool). bit t x && b) (no_source x) ∙ and-false (bit t x)))
      ∙ or_zero_r v

-- of the word v, in which the targets t are
pub adds_held : (above : Bool) (s t l v : ℕ) → v < 2 ^ 64 → bit_or v t ≡ v → bit_or v (back_word above s t l) ≡ v
adds_held above s t l v f e =
    sym (bit_ext 64 v (bit_or v added) f (or_lt 64 v added f (mask_lt 64 new))
    (λ x h. sym (bit-or x v added ∙ ap (λ (b : Bool). bit v x || b) (bit_mask 64 x new h)
    ∙ within (bit v x) (bit t x) (ahead 64 above (bit s) (bit l) x) (sym (bit-or x v t) ∙ ap (λ (n : ℕ). bit n x) e))))
  where
    new : ℕ → Bool
    new x = bit t x && ahead 64 above (bit s) (bit l) x

    added : ℕ
    added = back_word above s t l

    within : (a b c : Bool) → (a || b) ≡ a → (a || (b && c)) ≡ a
    within true b c e = refl
    within false b c e = ap (λ (z : Bool). z && c) e
