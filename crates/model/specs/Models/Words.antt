-- MASKS AS ROWS OF 64-BIT WORDS, low word first, and the operations of the run over any number of words.
use Rattle.std.specs.Prelude.{Bool, ◌&&◌, ◌||◌, List, [], ◌∷◌, ℕ, ◌+◌, ◌-◌, ◌*◌, ◌/◌, ◌%◌, ◌^◌, ◌<◌, eqb, leb, ltb, get_or, length, set}
use Rattle.std.specs.Int.Bits.{bit_and, bit_or, bit_xor}
use Rattle.model.specs.Bits.{digit}

-- the number that words make, how many bits it has, and that each of them is a word
abbrev pub value : List ℕ → ℕ
value [] = 0
value (w ∷ ws) = w + 2 ^ 64 * value ws

abbrev pub bits_of : List ℕ → ℕ
bits_of [] = 0
bits_of (w ∷ ws) = 64 + bits_of ws

abbrev pub Fit : List ℕ → Type 0
Fit [] = Unit
Fit (w ∷ ws) = (w < 2 ^ 64) × Fit ws

-- a row with bit i, which is bit i mod 64 of word i / 64; at or past the end nothing changes
abbrev pub put_bit : List ℕ → ℕ → List ℕ
put_bit ws i = set ws (i / 64) (bit_or (get_or ws (i / 64) 0) (2 ^ (i % 64)))

-- whether words are a mask of m states: as many as the last state asks, and no bit above it in its word
abbrev pub is_mask : ℕ → List ℕ → Bool
is_mask m ws = let last = m - 1 in eqb (length ws) (last / 64 + 1) && eqb (get_or ws (last / 64) 0 / 2 ^ (last % 64) / 2) 0

-- ---- word by word
abbrev pub each_word : (ℕ → ℕ → ℕ) → List ℕ → List ℕ → List ℕ
each_word f [] ys = []
each_word f (x ∷ xs) [] = []
each_word f (x ∷ xs) (y ∷ ys) = f x y ∷ each_word f xs ys

abbrev pub and_words : List ℕ → List ℕ → List ℕ
and_words = each_word bit_and

abbrev pub or_words : List ℕ → List ℕ → List ℕ
or_words = each_word bit_or

abbrev pub xor_words : List ℕ → List ℕ → List ℕ
xor_words = each_word bit_xor

abbrev pub not_words : List ℕ → List ℕ
not_words [] = []
not_words (x ∷ xs) = (2 ^ 64 - 1 - x) ∷ not_words xs

-- ---- "the borrow or carry out of each word goes into the next"
abbrev pub wrap_add : ℕ → ℕ → ℕ
wrap_add x y = (x + y) % 2 ^ 64

abbrev pub wrap_sub : ℕ → ℕ → ℕ
wrap_sub x y = (x + 2 ^ 64 - y) % 2 ^ 64

-- the carry out of x + y + c and the borrow out of x - y - b, found by comparison
abbrev pub carry_out : ℕ → ℕ → Bool → Bool
carry_out x y c = ltb (wrap_add x y) x || ltb (wrap_add (wrap_add x y) (digit c)) (digit c)

abbrev pub borrow_out : ℕ → ℕ → Bool → Bool
borrow_out x y b = ltb x y || ltb (wrap_sub x y) (digit b)

-- the words of a row made one after another from those of two rows, with what goes out of each
abbrev pub ripple : (word : ℕ → ℕ → Bool → ℕ) (out : ℕ → ℕ → Bool → Bool) → List ℕ → List ℕ → Bool → List ℕ
ripple word out [] ys c = []
ripple word out (x ∷ xs) [] c = []
ripple word out (x ∷ xs) (y ∷ ys) c = word x y c ∷ ripple word out xs ys (out x y c)

abbrev pub add_words : List ℕ → List ℕ → Bool → List ℕ
add_words = ripple (λ x y c. wrap_add (wrap_add x y) (digit c)) carry_out

abbrev pub subtract_words : List ℕ → List ℕ → Bool → List ℕ
subtract_words = ripple (λ x y b. wrap_sub (wrap_sub x y) (digit b)) borrow_out

-- each state on by one: the top bit of each word goes into the next
abbrev pub shift_words : List ℕ → Bool → List ℕ
shift_words [] c = []
shift_words (x ∷ xs) c = (x * 2 % 2 ^ 64 + digit c) ∷ shift_words xs (leb (2 ^ 63) x)
