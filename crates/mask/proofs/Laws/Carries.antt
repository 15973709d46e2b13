-- ONE WORD OF A SUM, A DIFFERENCE AND A SHIFT as the machine makes it, with what goes in and out as a number, is the word of the model.
use Rattle.std.proofs.Common.{◌≡◌, ℕ, ◌+◌, ◌*◌, ◌/◌, ◌%◌, ◌^◌, ◌<◌, ◌≤◌, Bool, leb, ◌⊎◌, sym, ap, ◌∙◌, inl, inr, arith}
use lib.Bits.{bit_or, or_shifted}
use Rattle.model.specs.Bits.{digit}
use Rattle.model.specs.Models.Words.{wrap_add, wrap_sub}
use Rattle.model.proofs.Laws.Bool.{le_false, le_or_lt, le_true}
use Rattle.model.proofs.Words.Ripple.{digit_small}
use Rattle.mask.specs.Rows.{shift_word, top_bit}

-- ---- a sum: s is x + y, and t is s and the carry c
abbrev pub sum_word : ℕ → ℕ → Bool → ℕ
sum_word x y c = wrap_add (wrap_add x y) (digit c)

-- ---- a difference: s is x - y, and t is s less the borrow c
abbrev pub difference_word : ℕ → ℕ → Bool → ℕ
difference_word x y b = wrap_sub (wrap_sub x y) (digit b)

-- ---- a shift: the word moved up by one with the bit that comes in, and the top bit that goes out
pub shifted_word : {x c : ℕ} (y : ℕ) → x < 2 ^ 64 → (b : Bool) → c ≡ digit b
    → (bit_or (x * 2 % 2 ^ 64) c ≡ shift_word x y b) × (x / 2 ^ 63 ≡ digit (top_bit x y b))
shifted_word {x} {c} y hx b e = (ap (bit_or (x * 2 % 2 ^ 64)) e ∙ word, top (le_or_lt (2 ^ 63) x))
  where
    even : x * 2 % 2 ^ 64 ≡ x * 2 % 2 ^ 64 / 2 * 2 ^ 1
    even = omega arith

    word : bit_or (x * 2 % 2 ^ 64) (digit b) ≡ x * 2 % 2 ^ 64 + digit b
    word =
        ap (λ (n : ℕ). bit_or n (digit b)) even ∙ or_shifted (x * 2 % 2 ^ 64 / 2) 1 (digit b) (digit_small b)
        ∙ ap (λ (n : ℕ). n + digit b) (sym even)

    top : (2 ^ 63 ≤ x) ⊎ (x < 2 ^ 63) → x / 2 ^ 63 ≡ digit (leb (2 ^ 63) x)
    top (inl h) = let q : x / 2 ^ 63 ≡ 1 = omega arith in q ∙ sym (ap digit (le_true (2 ^ 63) x h))
    top (inr h) = let q : x / 2 ^ 63 ≡ 0 = omega arith in q ∙ sym (ap digit (le_false (2 ^ 63) x h))
