-- SUMS AND DIFFERENCES OF ROWS OF WORDS: where "the borrow or carry out of each word goes into the next", the bits of the result are those of the
-- sum or difference of the numbers that the rows make. A row of differences is one that added to what was taken gives the row it was taken from.
use mathlib.Core.Path.{◌≡◌, refl, sym, ap, ◌∙◌}
use mathlib.Core.Bool.{Bool, true, false, not, ◌||◌}
use mathlib.Core.List.{List, [], ◌∷◌}
use Prim.Native.Nat.{ℕ, ◌+◌, ◌*◌, ◌%◌, ◌^◌, ◌≤◌, ◌<◌, suc}
use native.Mathlib.Omega.{arith}
use lib.Dec.{T, leb, leb→le, ltb, ltb→lt, nleb→lt, nltb→le}
use lib.ListN.{length}
use lib.Pow.{pow-add}
use Rattle.model.specs.Bits.{bit, digit}
use Rattle.model.specs.Models.Words.{add_words, bits_of, borrow_out, carry_out, Fit, ripple, shift_words, subtract_words, value, wrap_add, wrap_sub}
use Rattle.model.proofs.Words.Ripple.{add_bit, borrow, carry, difference_bits, digit_small, over, rippled_same, sub_bit, sum_bits}

-- zs is xs + ys + b, with c carried out of the last word
abbrev pub Adds : (xs ys zs : List ℕ) → Bool → Bool → Type 0
Adds [] [] [] b c = b ≡ c
Adds [] [] (z ∷ zs) b c = ⊥
Adds [] (y ∷ ys) zs b c = ⊥
Adds (x ∷ xs) [] zs b c = ⊥
Adds (x ∷ xs) (y ∷ ys) [] b c = ⊥
Adds (x ∷ xs) (y ∷ ys) (z ∷ zs) b c = (d : Bool) × (z + digit d * 2 ^ 64 ≡ x + y + digit b) × Adds xs ys zs d c

-- zs is xs - ys - b, with c borrowed from past the last word
abbrev pub Subtracts : (xs ys zs : List ℕ) → Bool → Bool → Type 0
Subtracts xs ys zs b c = Adds zs ys xs b c

-- ---- what such rows have in common: their length, the equation of their values, and so their bits
pub adds_length : (xs ys zs : List ℕ) (b c : Bool) → Adds xs ys zs b c → length xs ≡ length zs
adds_length [] [] [] b c e = refl
adds_length [] [] (z ∷ zs) b c e = absurd e
adds_length [] (y ∷ ys) zs b c e = absurd e
adds_length (x ∷ xs) [] zs b c e = absurd e
adds_length (x ∷ xs) (y ∷ ys) [] b c e = absurd e
adds_length (x ∷ xs) (y ∷ ys) (z ∷ zs) b c e = ap suc (adds_length xs ys zs e.0 c e.2)

adds_value : (xs ys zs : List ℕ) (b c : Bool) → Adds xs ys zs b c → value zs + over c (bits_of xs) ≡ value xs + value ys + digit b
adds_value [] [] [] b c e = over_none c ∙ sym (ap (λ (x : Bool). 0 + digit x) e)
  where
    over_none : (c : Bool) → 0 + over c 0 ≡ 0 + digit c
    over_none true = refl
    over_none false = refl
adds_value [] [] (z ∷ zs) b c e = absurd e
adds_value [] (y ∷ ys) zs b c e = absurd e
adds_value (x ∷ xs) [] zs b c e = absurd e
adds_value (x ∷ xs) (y ∷ ys) [] b c e = absurd e
adds_value (x ∷ xs) (y ∷ ys) (z ∷ zs) b c e = omega (arith, e.1, adds_value xs ys zs e.0 c e.2, over_word c (bits_of xs))
  where
    over_word : (c : Bool) (n : ℕ) → over c (64 + n) ≡ 2 ^ 64 * over c n
    over_word true n = pow-add 2 64 n
    over_word false n = refl

-- rows whose bits below m are those of two sets
module _ (m : ℕ) (X Y : ℕ → Bool) (xs ys zs : List ℕ) (c : Bool)
    (h_x : (j : ℕ) → j < m → bit (value xs) j ≡ X j) (h_y : (j : ℕ) → j < m → bit (value ys) j ≡ Y j) where
  pub sum-bits : Adds xs ys zs false c → m ≤ bits_of xs → (i : ℕ) → i < m → bit (value zs) i ≡ sum_bits X Y i
  sum-bits h l i k =
      add_bit i (bits_of xs) (value xs) (value ys) (value zs) false c (omega arith) (adds_value xs ys zs false c h)
      ∙ rippled_same carry (bit (value xs)) (bit (value ys)) X Y m h_x h_y i k

  pub difference-bits : Subtracts xs ys zs false c → m ≤ bits_of zs → (i : ℕ) → i < m → bit (value zs) i ≡ difference_bits X Y i
  difference-bits h l i k =
      sub_bit i (bits_of zs) (value xs) (value ys) (value zs) false c (omega arith) (sym (adds_value zs ys xs false c h))
      ∙ rippled_same borrow (bit (value xs)) (bit (value ys)) X Y m h_x h_y i k

-- ---- one word as the machine makes it: p and q are the two comparisons that find the carry or the borrow
word_add : (x y s z : ℕ) (b p q : Bool) → x < 2 ^ 64 → y < 2 ^ 64 → s ≡ (x + y) % 2 ^ 64 → z ≡ (s + digit b) % 2 ^ 64
    → (T p → s < x) → (T (not p) → x ≤ s) → (T q → z < digit b) → (T (not q) → digit b ≤ z) → z + digit (p || q) * 2 ^ 64 ≡ x + y + digit b
word_add x y s z b true true hx hy hs hz f g h i = absurd (omega (arith, f tt, h tt, digit_small b))
word_add x y s z b true false hx hy hs hz f g h i = omega (arith, f tt, i tt, digit_small b)
word_add x y s z b false true hx hy hs hz f g h i = omega (arith, g tt, h tt, digit_small b)
word_add x y s z b false false hx hy hs hz f g h i = omega (arith, g tt, i tt, digit_small b)

word_sub : (x y s z : ℕ) (b p q : Bool) → x < 2 ^ 64 → y < 2 ^ 64 → s < 2 ^ 64 → z < 2 ^ 64 → (s + y) % 2 ^ 64 ≡ x → (z + digit b) % 2 ^ 64 ≡ s
    → (T p → x < y) → (T (not p) → y ≤ x) → (T q → s < digit b) → (T (not q) → digit b ≤ s) → x + digit (p || q) * 2 ^ 64 ≡ z + y + digit b
word_sub x y s z b true true hx hy ls lz hs hz f g h i = absurd (omega (arith, f tt, h tt, digit_small b))
word_sub x y s z b true false hx hy ls lz hs hz f g h i = omega (arith, f tt, i tt, digit_small b)
word_sub x y s z b false true hx hy ls lz hs hz f g h i = omega (arith, g tt, h tt, digit_small b)
word_sub x y s z b false false hx hy ls lz hs hz f g h i = omega (arith, g tt, i tt, digit_small b)

-- ---- THE ROWS OF THE MODEL are such sums and differences, and made of words
pub add_is : (xs ys : List ℕ) (b : Bool) → length xs ≡ length ys → Fit xs → Fit ys → (c : Bool) × Adds xs ys (add_words xs ys b) b c
add_is [] [] b e h k = (b, refl)
add_is [] (y ∷ ys) b e h k = absurd (omega arith)
add_is (x ∷ xs) [] b e h k = absurd (omega arith)
add_is (x ∷ xs) (y ∷ ys) b e h k = let r = add_is xs ys (carry_out x y b) (omega arith) h.1 k.1 in (r.0, (carry_out x y b, word, r.1))
  where
    s : ℕ
    s = wrap_add x y

    z : ℕ
    z = wrap_add s (digit b)

    word : z + digit (carry_out x y b) * 2 ^ 64 ≡ x + y + digit b
    word = word_add x y s z b (ltb s x) (ltb z (digit b)) h.0 k.0 refl refl (ltb→lt s x) (nltb→le s x) (ltb→lt z (digit b)) (nltb→le z (digit b))

pub subtract_is : (xs ys : List ℕ) (b : Bool) → length xs ≡ length ys → Fit xs → Fit ys → (c : Bool) × Subtracts xs ys (subtract_words xs ys b) b c
subtract_is [] [] b e h k = (b, refl)
subtract_is [] (y ∷ ys) b e h k = absurd (omega arith)
subtract_is (x ∷ xs) [] b e h k = absurd (omega arith)
subtract_is (x ∷ xs) (y ∷ ys) b e h k = let r = subtract_is xs ys (borrow_out x y b) (omega arith) h.1 k.1 in (r.0, (borrow_out x y b, word, r.1))
  where
    s : ℕ
    s = wrap_sub x y

    z : ℕ
    z = wrap_sub s (digit b)

    word : x + digit (borrow_out x y b) * 2 ^ 64 ≡ z + y + digit b
    word =
        word_sub x y s z b (ltb x y) (ltb s (digit b)) h.0 k.0 (omega arith) (omega arith) (omega (arith, h.0, k.0)) (omega (arith, digit_small b))
        (ltb→lt x y) (nltb→le x y) (ltb→lt s (digit b)) (nltb→le s (digit b))

-- the shift is the sum of a row with itself
pub shift_is : (xs : List ℕ) (b : Bool) → Fit xs → (c : Bool) × Adds xs xs (shift_words xs b) b c
shift_is [] b h = (b, refl)
shift_is (x ∷ xs) b h = let r = shift_is xs top h.1 in (r.0, (top, go top (λ t. leb→le (2 ^ 63) x t) (λ t. nleb→lt (2 ^ 63) x t), r.1))
  where
    top : Bool
    top = leb (2 ^ 63) x

    go : (p : Bool) → (T p → 2 ^ 63 ≤ x) → (T (not p) → x < 2 ^ 63) → x * 2 % 2 ^ 64 + digit b + digit p * 2 ^ 64 ≡ x + x + digit b
    go true f g = omega (arith, f tt, h.0)
    go false f g = omega (arith, g tt)

module _ (word : ℕ → ℕ → Bool → ℕ) (out : ℕ → ℕ → Bool → Bool) (small : (x y : ℕ) (c : Bool) → word x y c < 2 ^ 64) where
  ripple_fit : (xs ys : List ℕ) (c : Bool) → Fit (ripple word out xs ys c)
  ripple_fit [] ys c = tt
  ripple_fit (x ∷ xs) [] c = tt
  ripple_fit (x ∷ xs) (y ∷ ys) c = (small x y c, ripple_fit xs ys (out x y c))

pub add_fit : (xs ys : List ℕ) (c : Bool) → Fit (add_words xs ys c)
add_fit = ripple_fit (λ x y c. wrap_add (wrap_add x y) (digit c)) carry_out (λ x y c. omega arith)

pub subtract_fit : (xs ys : List ℕ) (b : Bool) → Fit (subtract_words xs ys b)
subtract_fit = ripple_fit (λ x y b. wrap_sub (wrap_sub x y) (digit b)) borrow_out (λ x y b. omega arith)

pub shift_fit : (xs : List ℕ) (c : Bool) → Fit (shift_words xs c)
shift_fit [] c = tt
shift_fit (x ∷ xs) c = (omega (arith, digit_small c), shift_fit xs (leb (2 ^ 63) x))
