-- TWO WORDS HOLD WHAT IS SEEN FROM EVERY PLACE: bit by bit a shift looks n places on, and what the nearer places show stands before what the farther do.
use mathlib.Core.Path.{◌≡◌, refl, sym, ap, ap₂, ◌∙◌}
use mathlib.Core.Logic.{inl, inr}
use mathlib.Core.Bool.{Bool, true, false, not, ◌&&◌, ◌||◌, and-true, cond}
use Prim.Native.Nat.{ℕ, ◌+◌, ◌-◌, ◌/◌, ◌^◌, ◌<◌}
use native.Mathlib.Nat.{div-le_self, lt_of_le_of_lt}
use lib.Bits.{and_le_l, bit_and, bit_or}
use Rattle.model.specs.Bits.{bit}
use Rattle.model.specs.Models.Run.{ahead, back_word}
use Rattle.model.proofs.Laws.Bool.{le_or_lt}
use Rattle.model.proofs.Words.Bits.{bit-and, bit_ext, bit_high, bit_mask, bit_not, bit-or, mask_lt}
use Rattle.model.proofs.Words.RowBits.{shifted}
use Rattle.run_back.specs.Seen.{Doubled, Seen}
use Rattle.run_back.specs.declared.Near.{Near}
use Rattle.run_back.proofs.Laws.Ahead.{ahead_above, ahead_split}

-- the bits of a word that another lacks
bit_less : (i a b : ℕ) → a < 2 ^ 64 → b < 2 ^ 64 → bit (bit_and a (2 ^ 64 - 1 - b)) i ≡ (bit a i && not (bit b i))
bit_less i a b f g = bit-and i a (2 ^ 64 - 1 - b) ∙ elim (le_or_lt 64 i) [
  | inl h ↦ let none = bit_high 64 a i f h in ap (λ (z : Bool). z && bit (2 ^ 64 - 1 - b) i) none ∙ sym (ap (λ (z : Bool). z && not (bit b i)) none)
  | inr h ↦ ap (λ (z : Bool). bit a i && z) (bit_not 64 i b g h)
]

module _ (n : ℕ) (near : Near) (f : near.some < 2 ^ 64) (g : near.first < 2 ^ 64) where
  pub doubled : Doubled n near (record { some = bit_or near.some (near.some / 2 ^ n); first = bit_or near.first (bit_and (near.first / 2 ^ n) (2 ^ 64 - 1 - near.some)) })
  doubled source live S = record { any = any; lives = lives }
    where
      -- the n places ahead and those after them
      farther : (l : ℕ → Bool) (x : ℕ) → ahead (n + n) false (bit source) l x
          ≡ (ahead n false (bit source) l x || (ahead n false (bit source) l (n + x) && not (ahead n false (bit source) (bit source) x)))
      farther l x = ahead_split n n false (bit source) l x ∙ ahead_above n (ahead n false (bit source) l (n + x)) (bit source) l x

      or_less : (a b : Bool) → (a || b) ≡ (a || (b && not a))
      or_less true b = refl
      or_less false b = sym (and-true b)

      any : (x : ℕ) → bit (bit_or near.some (near.some / 2 ^ n)) x ≡ ahead (n + n) false (bit source) (bit source) x
      any x =
          bit-or x near.some (near.some / 2 ^ n) ∙ ap₂ ◌||◌ (S.any x) (shifted near.some n x ∙ S.any (n + x))
          ∙ or_less (ahead n false (bit source) (bit source) x) (ahead n false (bit source) (bit source) (n + x)) ∙ sym (farther (bit source) x)

      lives : (x : ℕ) → bit (bit_or near.first (bit_and (near.first / 2 ^ n) (2 ^ 64 - 1 - near.some))) x ≡ ahead (n + n) false (bit source) (bit live) x
      lives x =
          bit-or x near.first (bit_and (near.first / 2 ^ n) (2 ^ 64 - 1 - near.some))
          ∙ ap₂ ◌||◌ (S.lives x) (bit_less x (near.first / 2 ^ n) near.some (lt_of_le_of_lt (div-le_self near.first (2 ^ n)) g) f
          ∙ ap₂ (λ (a b : Bool). a && not b) (shifted near.first n x ∙ S.lives (n + x)) (S.any x)) ∙ sym (farther (bit live) x)

-- one place
pub seen_one : (source live : ℕ) → Seen 1 source live (record { some = source; first = bit_and source live })
seen_one source live = record { any = λ x. self (bit source x); lives = λ x. bit-and x source live ∙ both (bit source x) (bit live x) }
  where
    self : (b : Bool) → b ≡ cond b b false
    self true = refl
    self false = refl

    both : (b v : Bool) → (b && v) ≡ cond b v false
    both true v = refl
    both false v = refl

-- ---- THE TARGETS by what is seen of all 64 places
module _ (source target live : ℕ) (near : Near) (S : Seen 64 source live near) (h : target < 2 ^ 64) where
  back_is : (above : Bool) (lead : ℕ) → ((x : ℕ) → x < 64 → bit lead x ≡ ahead 64 above (bit source) (bit live) x) → bit_and target lead ≡ back_word above source target live
  back_is above lead e =
      let new : ℕ → Bool = λ x. bit target x && ahead 64 above (bit source) (bit live) x in
      bit_ext 64 (bit_and target lead) (back_word above source target live) (lt_of_le_of_lt (and_le_l target lead) h) (mask_lt 64 new)
      (λ x l. bit-and x target lead ∙ ap (λ (b : Bool). bit target x && b) (e x l) ∙ sym (bit_mask 64 x new l))

  pub back_none : bit_and target near.first ≡ back_word false source target live
  back_none = back_is false near.first (λ x l. S.lives x)

  pub back_above : near.some < 2 ^ 64 → bit_and target (bit_or near.first (2 ^ 64 - 1 - near.some)) ≡ back_word true source target live
  back_above f =
      back_is true (bit_or near.first (2 ^ 64 - 1 - near.some))
      (λ x l. bit-or x near.first (2 ^ 64 - 1 - near.some) ∙ ap₂ ◌||◌ (S.lives x) (bit_not 64 x near.some f l ∙ ap not (S.any x))
      ∙ sym (ahead_above 64 true (bit source) (bit live) x))
