-- THE OPERATIONS ON ROWS OF WORDS are those on the sets that the rows hold, once over any number of words: the bitwise ones because they work on
-- each run of digits apart, sum, difference and shift because the carry goes from word to word.
use mathlib.Core.Path.{◌≡◌, refl, sym, ap, ap₂, ◌∙◌}
use mathlib.Core.Bool.{Bool, true, false, not, ◌&&◌, ◌||◌, and-false}
use mathlib.Core.List.{List, [], ◌∷◌}
use Prim.Native.Nat.{ℕ, zero, suc, ◌+◌, ◌-◌, ◌*◌, ◌^◌, ◌≤◌, ◌<◌}
use native.Mathlib.Omega.{arith}
use lib.Bits.{bit_and, and_block, and_lt, bit_or, or_block, or_lt, bit_xor, xor_block, xor_lt}
use lib.ListN.{get_or, length}
use lib.Pow.{pow-add, pow_pos}
use Rattle.model.specs.Bits.{bit}
use Rattle.model.specs.Models.Words.{add_words, and_words, bits_of, each_word, Fit, not_words, or_words, shift_words, subtract_words, value, xor_words}
use Rattle.model.proofs.Image.Rows.{wide}
use Rattle.model.proofs.Words.Bits.{bit-and, bit_not, bit-or, bit-xor, odd2, swap}
use Rattle.model.proofs.Words.Holds.{Holds, Near, near_room, None, val_lt}
use Rattle.model.proofs.Words.Ripple.{carry, difference_bits, into, odd3, sum_bits}
use Rattle.model.proofs.Words.Sums.{add_fit, add_is, Adds, adds_length, difference-bits, shift_fit, shift_is, subtract_fit, subtract_is, Subtracts, sum-bits}

-- ---- an operation on each word apart
pub each_short : (op : ℕ → ℕ → ℕ) (xs ys : List ℕ) → length (each_word op xs ys) ≤ length xs
each_short op [] ys = omega arith
each_short op (x ∷ xs) [] = omega arith
each_short op (x ∷ xs) (y ∷ ys) = let l = each_short op xs ys in omega arith

-- as long as the first, where the second is no shorter
pub each_first : (op : ℕ → ℕ → ℕ) (xs ys : List ℕ) → length xs ≤ length ys → length (each_word op xs ys) ≡ length xs
each_first op [] ys h = refl
each_first op (x ∷ xs) [] h = absurd (omega arith)
each_first op (x ∷ xs) (y ∷ ys) h = ap suc (each_first op xs ys (omega arith))

pub each_length : (op : ℕ → ℕ → ℕ) (xs ys : List ℕ) → length xs ≡ length ys → length (each_word op xs ys) ≡ length xs
each_length op xs ys e = each_first op xs ys (omega arith)

pub each_at : (op : ℕ → ℕ → ℕ) (xs ys : List ℕ) (k : ℕ) → length xs ≡ length ys → k < length xs → op (get_or xs k 0) (get_or ys k 0) ≡ get_or (each_word op xs ys) k 0
each_at op [] ys k e h = absurd (omega arith)
each_at op (x ∷ xs) [] k e h = absurd (omega arith)
each_at op (x ∷ xs) (y ∷ ys) zero e h = refl
each_at op (x ∷ xs) (y ∷ ys) (suc k) e h = each_at op xs ys k (omega arith) (omega arith)

-- and as g does on two bits
module _ (op : ℕ → ℕ → ℕ) (g : Bool → Bool → Bool) (nil : op 0 0 ≡ 0)
    (block : (k a b r s : ℕ) → r < 2 ^ k → s < 2 ^ k → op (a * 2 ^ k + r) (b * 2 ^ k + s) ≡ op a b * 2 ^ k + op r s)
    (lt : (k a b : ℕ) → a < 2 ^ k → b < 2 ^ k → op a b < 2 ^ k) (bit_op : (i a b : ℕ) → bit (op a b) i ≡ g (bit a i) (bit b i)) where
  each_fit : (xs ys : List ℕ) → Fit xs → Fit ys → Fit (each_word op xs ys)
  each_fit [] ys h k = tt
  each_fit (x ∷ xs) [] h k = tt
  each_fit (x ∷ xs) (y ∷ ys) h k = (lt 64 x y h.0 k.0, each_fit xs ys h.1 k.1)

  each_value : (xs ys : List ℕ) → length xs ≡ length ys → Fit xs → Fit ys → value (each_word op xs ys) ≡ op (value xs) (value ys)
  each_value [] [] e h k = sym nil
  each_value [] (y ∷ ys) e h k = absurd (omega arith)
  each_value (x ∷ xs) [] e h k = absurd (omega arith)
  each_value (x ∷ xs) (y ∷ ys) e h k =
      ap (λ (n : ℕ). op x y + 2 ^ 64 * n) (each_value xs ys (omega arith) h.1 k.1)
      ∙ swap (op x y) (op (value xs) (value ys)) ∙ sym (block 64 (value xs) (value ys) x y h.0 k.0)
      ∙ ap₂ op (sym (swap x (value xs))) (sym (swap y (value ys)))

  module _ (m W : ℕ) (xs ys : List ℕ) (f h : ℕ → Bool) (X : Near m W xs f) (Y : Near m W ys h) where
    same_length : length xs ≡ length ys
    same_length = X.len ∙ sym Y.len

    each_bit : (x : ℕ) → bit (value (each_word op xs ys)) x ≡ g (bit (value xs) x) (bit (value ys) x)
    each_bit x = ap (λ (n : ℕ). bit n x) (each_value xs ys same_length X.fit Y.fit) ∙ bit_op x (value xs) (value ys)

    near_each : Near m W (each_word op xs ys) (λ x. g (f x) (h x))
    near_each = record {
      len = each_length op xs ys same_length ∙ X.len;
      fit = each_fit xs ys X.fit Y.fit;
      bits = λ x l. each_bit x ∙ ap₂ g (X.bits x l) (Y.bits x l);
    }

module _ (m W : ℕ) (xs ys : List ℕ) (f h : ℕ → Bool) (X : Near m W xs f) (Y : Near m W ys h) where
  pub near_and : Near m W (and_words xs ys) (λ x. f x && h x)
  near_and = near_each bit_and ◌&&◌ refl and_block and_lt bit-and m W xs ys f h X Y

  and_at : (x : ℕ) → bit (value (and_words xs ys)) x ≡ (bit (value xs) x && bit (value ys) x)
  and_at = each_bit bit_and ◌&&◌ refl and_block and_lt bit-and m W xs ys f h X Y

  pub none_and_l : None m xs → None m (and_words xs ys)
  none_and_l n x l = and_at x ∙ ap (λ (b : Bool). b && bit (value ys) x) (n x l)

  none_and_r : None m ys → None m (and_words xs ys)
  none_and_r n x l = and_at x ∙ ap (λ (b : Bool). bit (value xs) x && b) (n x l) ∙ and-false (bit (value xs) x)

  none_or : None m xs → None m ys → None m (or_words xs ys)
  none_or n k x l = each_bit bit_or ◌||◌ refl or_block or_lt bit-or m W xs ys f h X Y x ∙ ap₂ ◌||◌ (n x l) (k x l)

module _ {m W : ℕ} {xs ys : List ℕ} {f h : ℕ → Bool} where
  pub near_or : Near m W xs f → Near m W ys h → Near m W (or_words xs ys) (λ x. f x || h x)
  near_or X Y = near_each bit_or ◌||◌ refl or_block or_lt bit-or m W xs ys f h X Y

  pub near_xor : Near m W xs f → Near m W ys h → Near m W (xor_words xs ys) (λ x. odd2 (f x) (h x))
  near_xor X Y = near_each bit_xor odd2 refl xor_block xor_lt bit-xor m W xs ys f h X Y

  -- an `and` needs one row with nothing from m on, an `or` needs two
  pub holds_and_l : Holds m W xs f → Near m W ys h → Holds m W (and_words xs ys) (λ x. f x && h x)
  holds_and_l X Y = record { near = near_and m W xs ys f h X.near Y; none = none_and_l m W xs ys f h X.near Y X.none }

  pub holds_and_r : Near m W xs f → Holds m W ys h → Holds m W (and_words xs ys) (λ x. f x && h x)
  holds_and_r X Y = record { near = near_and m W xs ys f h X Y.near; none = none_and_r m W xs ys f h X Y.near Y.none }

  pub holds_or : Holds m W xs f → Holds m W ys h → Holds m W (or_words xs ys) (λ x. f x || h x)
  holds_or X Y = record { near = near_or X.near Y.near; none = none_or m W xs ys f h X.near Y.near X.none Y.none }

-- ---- the complement
not_length : (xs : List ℕ) → length (not_words xs) ≡ length xs
not_length [] = refl
not_length (x ∷ xs) = ap suc (not_length xs)

not_fit : (xs : List ℕ) → Fit (not_words xs)
not_fit [] = tt
not_fit (x ∷ xs) = (omega arith, not_fit xs)

not_value : (xs : List ℕ) → Fit xs → value (not_words xs) ≡ 2 ^ bits_of xs - 1 - value xs
not_value [] h = refl
not_value (x ∷ xs) h = omega (arith, not_value xs h.1, val_lt xs h.1, pow-add 2 64 (bits_of xs), pow_pos (bits_of xs))

-- each state on by one
abbrev pub next : (ℕ → Bool) → ℕ → Bool
next f zero = false
next f (suc x) = f x

module _ {m W : ℕ} (r : m ≤ wide W) where
  pub near_not : {xs : List ℕ} {f : ℕ → Bool} → Near m W xs f → Near m W (not_words xs) (λ x. not (f x))
  near_not {xs} {f} X = record {
    len = not_length xs ∙ X.len;
    fit = not_fit xs;
    bits = λ x l. ap (λ (n : ℕ). bit n x) (not_value xs X.fit)
        ∙ bit_not (bits_of xs) x (value xs) (val_lt xs X.fit) (omega (arith, near_room m W xs r X.len)) ∙ ap not (X.bits x l);
  }

  module _ {xs ys : List ℕ} {f h : ℕ → Bool} (X : Near m W xs f) (Y : Near m W ys h) where
    -- ---- sums and differences, however their carries and borrows were found
    near_add_of : (zs : List ℕ) (c : Bool) → Fit zs → Adds xs ys zs false c → Near m W zs (sum_bits f h)
    near_add_of zs c k R = record {
      len = sym (adds_length xs ys zs false c R) ∙ X.len;
      fit = k;
      bits = sum-bits m f h xs ys zs c X.bits Y.bits R (near_room m W xs r X.len);
    }

    near_sub_of : (zs : List ℕ) (c : Bool) → Fit zs → Subtracts xs ys zs false c → Near m W zs (difference_bits f h)
    near_sub_of zs c k R =
        let l = adds_length zs ys xs false c R ∙ X.len in
        record { len = l; fit = k; bits = difference-bits m f h xs ys zs c X.bits Y.bits R (near_room m W zs r l) }

    -- ---- those of the model
    pub near_add : Near m W (add_words xs ys false) (sum_bits f h)
    near_add = let a = add_is xs ys false (X.len ∙ sym Y.len) X.fit Y.fit in near_add_of (add_words xs ys false) a.0 (add_fit xs ys false) a.1

    pub near_sub : Near m W (subtract_words xs ys false) (difference_bits f h)
    near_sub =
        let a = subtract_is xs ys false (X.len ∙ sym Y.len) X.fit Y.fit in
        near_sub_of (subtract_words xs ys false) a.0 (subtract_fit xs ys false) a.1

  -- ---- the shift
  pub near_shift : {xs : List ℕ} {f : ℕ → Bool} → Near m W xs f → Near m W (shift_words xs false) (next f)
  near_shift {xs} {f} X = record { len = twice.len; fit = twice.fit; bits = λ x l. twice.bits x l ∙ go x }
    where
      twice : Near m W (shift_words xs false) (sum_bits f f)
      twice = let a = shift_is xs false X.fit in near_add_of X X (shift_words xs false) a.0 (shift_fit xs false) a.1

      same : (a c : Bool) → odd3 a a c ≡ c
      same true c = refl
      same false c = refl

      kept : (a c : Bool) → carry a a c ≡ a
      kept true c = refl
      kept false c = refl

      go : (x : ℕ) → sum_bits f f x ≡ next f x
      go zero = same (f zero) false
      go (suc x) = same (f (suc x)) (into carry f f false (suc x)) ∙ kept (f x) (into carry f f false x)
