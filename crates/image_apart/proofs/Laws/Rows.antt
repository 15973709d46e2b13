-- A ROW MADE OF MASKS, one after another, has a state exactly if some of the masks has it: `or` works on each word apart, and on each bit of a word.
use mathlib.Core.Path.{◌≡◌, refl, sym, ap, ap₂, ◌∙◌}
use mathlib.Core.Logic.{◌⊎◌, inl, inr}
use mathlib.Core.Bool.{Bool, not, ◌&&◌, ◌||◌, or_comm}
use mathlib.Core.List.{List, [], ◌∷◌}
use Prim.Native.Nat.{ℕ, zero, suc, ◌+◌, ◌-◌, ◌*◌, ◌/◌, ◌%◌, ◌^◌, ◌≤◌, ◌<◌}
use native.Mathlib.Nat.{le_of_suc-le-suc, le_refl, not-suc-le-zero}
use native.Mathlib.Numerals.{add-one}
use native.Mathlib.Omega.{arith}
use lib.Bits.{and_lt, bit_or, or_lt, or_zero_l, or_zero_r}
use lib.ListN.{drop, get_or, get_or-replicate, length, length-drop, get_or-eq_default, set, take}
use lib.Pow.{ones_sub-lt}
use lib.Seq.{ext_get_or, get_or-drop, get_or-take, length-take-le}
use Rattle.model.specs.Bits.{bit}
use Rattle.model.specs.Models.Apart.{any_below}
use Rattle.model.specs.Models.Words.{each_word, Fit, value}
use Rattle.model.proofs.Laws.Bits.{bit_zero}
use Rattle.model.proofs.Laws.Bool.{le_or_lt}
use Rattle.model.proofs.Words.Bits.{bit-and, bit_not, bit-or}
use Rattle.mask.proofs.Laws.Bits.{none_bit, none_fit}
use Rattle.model.proofs.Words.RowBits.{row_bit}
use Rattle.model.proofs.Words.Operations.{each_length}
use Rattle.mask.proofs.Laws.Each.{each-word}
use Rattle.tokens_masks.specs.Joins.{join_word, Only}
use Rattle.image_apart.specs.Work.{entered_words, or_first, or_rows, some_row, some_word, words_at}

-- ---- a mask as it lies in words
module _ (ws : List ℕ) (at W : ℕ) (fits : at + W ≤ length ws) where
  pub words_long : length (words_at ws at W) ≡ W
  words_long = length-take-le W (drop at ws) (omega (arith, length-drop at ws))

  word_at : (j : ℕ) → j < W → get_or ws (at + j) 0 ≡ get_or (words_at ws at W) j 0
  word_at j h = sym (get_or-take W (drop at ws) j 0 h ∙ get_or-drop at ws j 0)

module _ (ws : List ℕ) (at W : ℕ) (fits : at + 2 * W ≤ length ws) where
  block_long : length (words_at ws at W) ≡ W
  block_long = words_long ws at W (omega arith)

  source_long : length (words_at ws (at + W) W) ≡ W
  source_long = words_long ws (at + W) W (omega arith)

  pub entered_long : length (entered_words ws at W) ≡ W
  entered_long = each_length (join_word Only) (words_at ws at W) (words_at ws (at + W) W) (block_long ∙ sym source_long) ∙ block_long

  pub entered_at : (j : ℕ) → j < W → join_word Only (get_or ws (at + j) 0) (get_or ws (at + W + j) 0) ≡ get_or (entered_words ws at W) j 0
  entered_at j h =
      ap₂ (join_word Only) (word_at ws at W (omega arith) j h) (word_at ws (at + W) W (omega arith) j h)
      ∙ sym (each-word (join_word Only) (words_at ws at W) (words_at ws (at + W) W) j (omega (arith, block_long)) (omega (arith, source_long)))

-- ---- word by word
pub or_nothing : (row : List ℕ) → or_first row [] ≡ row
or_nothing [] = refl
or_nothing (x ∷ row) = refl

one_more : (row xs : List ℕ) (j : ℕ) → j < length row → j < length xs
    → set (or_first row (take j xs)) j (bit_or (get_or (or_first row (take j xs)) j 0) (get_or xs j 0)) ≡ or_first row (take (suc j) xs)
one_more [] xs j h k = absurd (not-suc-le-zero h)
one_more (x ∷ row) [] j h k = absurd (not-suc-le-zero k)
one_more (x ∷ row) (y ∷ xs) zero h k = ap (λ (l : List ℕ). bit_or x y ∷ l) (sym (or_nothing row))
one_more (x ∷ row) (y ∷ xs) (suc j) h k = ap (λ (l : List ℕ). bit_or x y ∷ l) (one_more row xs j (le_of_suc-le-suc h) (le_of_suc-le-suc k))

pub or_more : (row xs : List ℕ) {either : List ℕ} {j : ℕ} (v : ℕ) → either ≡ or_first row (take j xs) → j < length row → j < length xs
    → v ≡ get_or xs j 0 → set either j (bit_or (get_or either j 0) v) ≡ or_first row (take (j + 1) xs)
or_more row xs {either} {j} v e h k q =
    ap₂ (λ (l : List ℕ) (w : ℕ). set l j (bit_or (get_or l j 0) w)) e q
    ∙ one_more row xs j h k ∙ ap (λ (i : ℕ). or_first row (take i xs)) (sym (add-one j))

-- ---- the bits
or_length : (xs ys : List ℕ) → length (or_first xs ys) ≡ length xs
or_length [] ys = refl
or_length (x ∷ xs) [] = refl
or_length (x ∷ xs) (y ∷ ys) = ap suc (or_length xs ys)

or_fit : (xs ys : List ℕ) → Fit xs → Fit ys → Fit (or_first xs ys)
or_fit [] ys f g = tt
or_fit (x ∷ xs) [] f g = f
or_fit (x ∷ xs) (y ∷ ys) f g = (or_lt 64 x y f.0 g.0, or_fit xs ys f.1 g.1)

or_word : (xs ys : List ℕ) (q : ℕ) → length ys ≤ length xs → get_or (or_first xs ys) q 0 ≡ bit_or (get_or xs q 0) (get_or ys q 0)
or_word [] [] q h = sym (or_zero_l 0)
or_word [] (y ∷ ys) q h = absurd (not-suc-le-zero h)
or_word (x ∷ xs) [] q h = sym (or_zero_r (get_or (x ∷ xs) q 0))
or_word (x ∷ xs) (y ∷ ys) zero h = refl
or_word (x ∷ xs) (y ∷ ys) (suc q) h = or_word xs ys q (le_of_suc-le-suc h)

or_bit : (xs ys : List ℕ) (x : ℕ) → Fit xs → Fit ys → length ys ≤ length xs → bit (value (or_first xs ys)) x ≡ (bit (value xs) x || bit (value ys) x)
or_bit xs ys x f g h =
    row_bit (or_first xs ys) x (or_fit xs ys f g)
    ∙ ap (λ (w : ℕ). bit w (x % 64)) (or_word xs ys (x / 64) h)
    ∙ bit-or (x % 64) (get_or xs (x / 64) 0) (get_or ys (x / 64) 0)
    ∙ ap₂ ◌||◌ (sym (row_bit xs x f)) (sym (row_bit ys x g))

-- words that fit, at most eight
pub record Mask (ws : List ℕ) : Type 0 where
  pub fit : Fit ws
  pub few : length ws ≤ 8

module _ (f : ℕ → List ℕ) where
  pub rows_length : (n : ℕ) → length (or_rows n f) ≡ 8
  rows_length zero = refl
  rows_length (suc n) = or_length (or_rows n f) (f n) ∙ rows_length n

  pub rows_fit : (n : ℕ) → ((k : ℕ) → k < n → Mask (f k)) → Fit (or_rows n f)
  rows_fit zero M = none_fit 8
  rows_fit (suc n) M = or_fit (or_rows n f) (f n) (rows_fit n (λ k h. M k (omega arith))) (M n (le_refl (suc n))).fit

  -- THE STATES OF SEVERAL MASKS
  pub rows_bit : (n x : ℕ) → ((k : ℕ) → k < n → Mask (f k)) → bit (value (or_rows n f)) x ≡ any_below n (λ k. bit (value (f k)) x)
  rows_bit zero x M = none_bit 8 x
  rows_bit (suc n) x M =
      let last = M n (le_refl (suc n)) in
      or_bit (or_rows n f) (f n) x (rows_fit n (λ k h. M k (omega arith))) last.fit (omega (arith, last.few, rows_length n))
      ∙ or_comm (bit (value (or_rows n f)) x) (bit (value (f n)) x)
      ∙ ap (λ (b : Bool). bit (value (f n)) x || b) (rows_bit n x (λ k h. M k (omega arith)))

-- ---- the states of one mask that are not in another
pub only_fit : (xs ys : List ℕ) → Fit xs → Fit (each_word (join_word Only) xs ys)
only_fit [] ys f = tt
only_fit (x ∷ xs) [] f = tt
only_fit (x ∷ xs) (y ∷ ys) f = (and_lt 64 x (2 ^ 64 - 1 - y) f.0 (ones_sub-lt 64 y), only_fit xs ys f.1)

only_word : (xs ys : List ℕ) (q r : ℕ) → length xs ≡ length ys → Fit ys → r < 64
    → bit (get_or (each_word (join_word Only) xs ys) q 0) r ≡ (bit (get_or xs q 0) r && not (bit (get_or ys q 0) r))
only_word [] [] q r e g h = bit_zero r ∙ ap (λ (b : Bool). b && not (bit 0 r)) (sym (bit_zero r))
only_word [] (y ∷ ys) q r e g h = absurd (omega arith)
only_word (x ∷ xs) [] q r e g h = absurd (omega arith)
only_word (x ∷ xs) (y ∷ ys) zero r e g h =
    bit-and r x (2 ^ 64 - 1 - y) ∙ ap (λ (b : Bool). bit x r && b) (bit_not 64 r y g.0 h)
only_word (x ∷ xs) (y ∷ ys) (suc q) r e g h = only_word xs ys q r (omega arith) g.1 h

pub only_bit : (xs ys : List ℕ) (x : ℕ) → length xs ≡ length ys → Fit xs → Fit ys
    → bit (value (each_word (join_word Only) xs ys)) x ≡ (bit (value xs) x && not (bit (value ys) x))
only_bit xs ys x e f g =
    row_bit (each_word (join_word Only) xs ys) x (only_fit xs ys f)
    ∙ only_word xs ys (x / 64) (x % 64) e g (omega arith)
    ∙ ap₂ (λ (a b : Bool). a && not b) (sym (row_bit xs x f)) (sym (row_bit ys x g))

-- ---- word by word, of masks that stand a stride apart
-- the first j words of the row of n masks are made, those after them are 0
pub record RowTo (ws : List ℕ) (at stride n j : ℕ) (row : List ℕ) : Type 0 where
  pub long : length row ≡ 8
  pub done : (k : ℕ) → k < j → get_or row k 0 ≡ some_word ws (at + k) stride n
  pub rest : (k : ℕ) → j ≤ k → k < 8 → get_or row k 0 ≡ 0

module _ (ws : List ℕ) (at stride W : ℕ) (narrow : W ≤ 8) where
  -- the first n masks lie within the words
  abbrev Inside : ℕ → Type 0
  Inside n = (k : ℕ) → k < n → at + stride * k + W ≤ length ws

  fewer : (n : ℕ) → Inside (suc n) → Inside n
  fewer n I k h = I k (omega arith)

  some_more : (n j : ℕ) → Inside (suc n)
      → get_or (some_row ws at stride W (suc n)) j 0 ≡ bit_or (get_or (some_row ws at stride W n) j 0) (get_or (words_at ws (at + stride * n) W) j 0)
  some_more n j I =
      or_word (some_row ws at stride W n) (words_at ws (at + stride * n) W) j
      (omega (arith, rows_length (λ k. words_at ws (at + stride * k) W) n, words_long ws (at + stride * n) W (I n (le_refl (suc n)))))

  some_at : (n j : ℕ) → j < W → Inside n → get_or (some_row ws at stride W n) j 0 ≡ some_word ws (at + j) stride n
  some_at zero j h I = get_or-replicate 8 j 0 0 (omega arith)
  some_at (suc n) j h I =
      let there : at + stride * n + j ≡ at + j + stride * n = omega arith in
      some_more n j I
      ∙ ap₂ bit_or (some_at n j h (fewer n I))
      (sym (word_at ws (at + stride * n) W (I n (le_refl (suc n))) j h) ∙ ap (λ (i : ℕ). get_or ws i 0) there)

  some_past : (n j : ℕ) → W ≤ j → j < 8 → Inside n → get_or (some_row ws at stride W n) j 0 ≡ 0
  some_past zero j h l I = get_or-replicate 8 j 0 0 l
  some_past (suc n) j h l I =
      some_more n j I
      ∙ ap₂ bit_or (some_past n j h l (fewer n I))
      (get_or-eq_default (words_at ws (at + stride * n) W) 0 (omega (arith, words_long ws (at + stride * n) W (I n (le_refl (suc n))))))
      ∙ or_zero_l 0

  pub row_all : {n j : ℕ} {row : List ℕ} → RowTo ws at stride n j row → j ≡ W → Inside n → row ≡ some_row ws at stride W n
  row_all {n} {j} {row} R e I =
      ext_get_or 0 row (some_row ws at stride W n) (R.long ∙ sym (rows_length (λ k. words_at ws (at + stride * k) W) n)) (λ k l. go k (omega (arith, R.long)) (le_or_lt W k))
    where
      go : (k : ℕ) → k < 8 → (W ≤ k) ⊎ (k < W) → get_or row k 0 ≡ get_or (some_row ws at stride W n) k 0
      go k l (inl h) = R.rest k (omega arith) l ∙ sym (some_past n k h l I)
      go k l (inr h) = R.done k (omega arith) ∙ sym (some_at n k h I)
