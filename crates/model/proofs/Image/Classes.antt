-- The tokens whose letters' classes hold a byte, and bytes only: for those the letters' bits show which tokens are letters.
use mathlib.Core.Path.{◌≡◌, refl, sym, ap₂, ◌∙◌, subst}
use mathlib.Core.Bool.{Bool, true, false, ◌||◌}
use mathlib.Core.List.{List, [], ◌∷◌}
use Prim.Native.Nat.{ℕ, zero, suc, ◌^◌, ◌<◌}
use native.Mathlib.Omega.{arith}
use lib.Dec.{T}
use lib.ListN.{get_or}
use lib.Pow.{pow_pos}
use Rattle.model.specs.Lists.{All}
use Rattle.model.specs.Bits.{bit, mask}
use Rattle.model.specs.Models.Apart.{any_below}
use Rattle.model.specs.Models.Tokens.{a_bar, a_close, a_letter, an_open, Token}
use Rattle.model.proofs.Laws.Bits.{below_in, bit_zero}
use Rattle.model.proofs.Laws.Bool.{is_not}
use Rattle.model.proofs.Reading.WellFormed.{Class}
use Rattle.model.proofs.Words.Bits.{bit_ext, bit_mask, mask_lt}

abbrev pub Fine : Token → Type 0
Fine (a_letter c r) = Class c
Fine an_open = Unit
Fine a_bar = Unit
Fine (a_close m) = Unit

abbrev pub AllFine : List Token → Type 0
AllFine l = All Fine l

pub fine_at : (l : List Token) (i : ℕ) → AllFine l → Fine (get_or l i a_bar)
fine_at [] i A = tt
fine_at (x ∷ xs) zero A = A.0
fine_at (x ∷ xs) (suc i) A = fine_at xs i A.1

-- ---- classes as sets of bytes
pub no_bits : (n : ℕ) → any_below n (λ b. bit 0 b) ≡ false
no_bits zero = refl
no_bits (suc n) = ap₂ ◌||◌ (bit_zero n) (no_bits n)

pub some_bit : (c : ℕ) → Class c → any_below 256 (λ b. bit c b) ≡ true
some_bit c C = go (any_below 256 (λ b. bit c b)) refl
  where
    off : (i : ℕ) → i < 256 → any_below 256 (λ b. bit c b) ≡ false → bit c i ≡ bit 0 i
    off i k e = is_not (bit c i) (λ t. subst T e (below_in 256 (λ b. bit c b) i k t)) ∙ sym (bit_zero i)

    go : (b : Bool) → any_below 256 (λ b. bit c b) ≡ b → any_below 256 (λ b. bit c b) ≡ true
    go true e = e
    go false e = absurd (omega (arith, C.some_byte, bit_ext 256 c 0 C.bytes_only (pow_pos 256) (λ i k. off i k e)))

pub class_is : (c : ℕ) → c < 2 ^ 256 → mask 256 (λ b. bit c b) ≡ c
class_is c l = bit_ext 256 (mask 256 (λ b. bit c b)) c (mask_lt 256 (λ b. bit c b)) l (λ i k. bit_mask 256 i (λ b. bit c b) k)
