-- A ROW OF WORDS HOLDS A SET: its bits below m are those of the set, and no bit stands at or above m. The words of a mask hold their set, and so do
-- they with words of zeros after them.
use mathlib.Core.Path.{◌≡◌, refl, ap, ap₂, ◌∙◌, subst}
use mathlib.Core.Bool.{Bool, false}
use mathlib.Core.List.{List, [], ◌∷◌, ◌++◌}
use Prim.Native.Nat.{ℕ, zero, suc, ◌+◌, ◌*◌, ◌/◌, ◌^◌, ◌≤◌, ◌<◌}
use native.Mathlib.Nat.{le_refl, le_trans}
use native.Mathlib.Omega.{arith}
use lib.ListN.{length, length-append, length-replicate, replicate}
use lib.Pow.{pow-add, pow_mono}
use Rattle.model.specs.Bits.{bit, mask}
use Rattle.model.specs.Image.{words}
use Rattle.model.specs.Models.LayOut.{set}
use Rattle.model.specs.Models.Words.{bits_of, Fit, value}
use Rattle.model.proofs.Image.Rows.{length_words, set_bit, val_words, wide}
use Rattle.model.proofs.Words.Bits.{bit_high, mask_lt}

-- W words with the set f below m; with nothing from m on; and both
pub record Near (m W : ℕ) (xs : List ℕ) (f : ℕ → Bool) : Type 0 where
  pub len : length xs ≡ W
  pub fit : Fit xs
  pub bits : (x : ℕ) → x < m → bit (value xs) x ≡ f x

abbrev pub None : ℕ → List ℕ → Type 0
None m xs = (x : ℕ) → m ≤ x → bit (value xs) x ≡ false

pub record Holds (m W : ℕ) (xs : List ℕ) (f : ℕ → Bool) : Type 0 where
  pub near : Near m W xs f
  pub none : None m xs

pub holds_as : (m W : ℕ) (xs : List ℕ) (f g : ℕ → Bool) → ((x : ℕ) → f x ≡ g x) → Holds m W xs f → Holds m W xs g
holds_as m W xs f g e H = record { near = record { len = H.near.len; fit = H.near.fit; bits = λ x l. H.near.bits x l ∙ e x }; none = H.none }

-- ---- the size of a row
pub width_is : (xs : List ℕ) → bits_of xs ≡ wide (length xs)
width_is [] = refl
width_is (x ∷ xs) = ap (λ (n : ℕ). 64 + n) (width_is xs)

pub val_lt : (xs : List ℕ) → Fit xs → value xs < 2 ^ bits_of xs
val_lt [] h = le_refl 1
val_lt (x ∷ xs) h = let k = val_lt xs h.1 in omega (arith, pow-add 2 64 (bits_of xs))

pub val_below : (W : ℕ) (xs : List ℕ) → length xs ≡ W → Fit xs → value xs < 2 ^ wide W
val_below W xs e h = subst (λ (k : ℕ). value xs < 2 ^ k) (width_is xs ∙ ap wide e) (val_lt xs h)

-- W words have room for m bits
pub near_room : (m W : ℕ) (xs : List ℕ) → m ≤ wide W → length xs ≡ W → m ≤ bits_of xs
near_room m W xs r e = omega (arith, width_is xs, ap wide e)

-- ---- THE WORDS OF A MASK HOLD ITS SET
words_fit : (w n : ℕ) → Fit (words w n)
words_fit zero n = tt
words_fit (suc w) n = (omega arith, words_fit w (n / 2 ^ 64))

pub set_holds : (m W : ℕ) (f : ℕ → Bool) → m ≤ wide W → Holds m W (set m W f) f
set_holds m W f r = record {
  near = record { len = length_words W (mask m f); fit = words_fit W (mask m f); bits = set_bit m W f r };
  none = λ x l. ap (λ (n : ℕ). bit n x) (val_words W (mask m f) (le_trans (mask_lt m f) (pow_mono r))) ∙ bit_high m (mask m f) x (mask_lt m f) l;
}

-- ---- words of zeros above change nothing: a mask is eight words in work, and its first W in the image
pad_value : (xs : List ℕ) (n : ℕ) → value (xs ++ replicate n 0) ≡ value xs
pad_value [] zero = refl
pad_value [] (suc n) = ap (λ (v : ℕ). 0 + 2 ^ 64 * v) (pad_value [] n)
pad_value (x ∷ xs) n = ap (λ (v : ℕ). x + 2 ^ 64 * v) (pad_value xs n)

pad_fit : (xs : List ℕ) (n : ℕ) → Fit xs → Fit (xs ++ replicate n 0)
pad_fit [] zero h = tt
pad_fit [] (suc n) h = (omega arith, pad_fit [] n tt)
pad_fit (x ∷ xs) n h = (h.0, pad_fit xs n h.1)

pub pad_holds : (m W n : ℕ) (xs : List ℕ) (f : ℕ → Bool) → Holds m W xs f → Holds m (W + n) (xs ++ replicate n 0) f
pad_holds m W n xs f H = record {
  near = record {
    len = length-append xs (replicate n 0) ∙ ap₂ ◌+◌ H.near.len (length-replicate n 0);
    fit = pad_fit xs n H.near.fit;
    bits = λ x l. ap (λ (v : ℕ). bit v x) (pad_value xs n) ∙ H.near.bits x l;
  };
  none = λ x l. ap (λ (v : ℕ). bit v x) (pad_value xs n) ∙ H.none x l;
}
