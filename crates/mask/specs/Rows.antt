-- HOW MANY OF n WORDS A MASK HAS; and how its words are made where each hands on a bit to the next.
use Rattle.std.specs.Prelude.{◌≡◌, Bool, leb, ℕ, ◌+◌, ◌*◌, ◌%◌, ◌^◌, ◌≤◌, ◌⊎◌}
use Rattle.model.specs.Bits.{digit}

-- n, or all eight where n is more
abbrev pub Upto : ℕ → ℕ → Type 0
Upto n r = (r ≤ 8) × ((r ≡ n) ⊎ (r ≡ 8)) × (r ≤ n)

-- HOW A WORD IS MADE of two words and of what the word below hands on, and what it hands on itself
pub record Handing : Type 0 where
  pub word : ℕ → ℕ → Bool → ℕ
  pub out : ℕ → ℕ → Bool → Bool

-- the word moved up by one with the bit that comes in, whatever the other is, and the top bit that goes out
abbrev pub shift_word : ℕ → ℕ → Bool → ℕ
shift_word x y c = x * 2 % 2 ^ 64 + digit c

abbrev pub top_bit : ℕ → ℕ → Bool → Bool
top_bit x y c = leb (2 ^ 63) x
