-- A set of states as words, and back: the bits of its words are the set's. And words made of parts of one length: each part is found again.
use mathlib.Core.Path.{◌≡◌, refl, sym, ap, ap₂, ◌∙◌}
use mathlib.Core.Bool.{Bool}
use mathlib.Core.List.{List, [], ◌∷◌, ◌++◌, append_assoc, append-nil}
use Prim.Native.Nat.{ℕ, zero, suc, ◌+◌, ◌*◌, ◌/◌, ◌^◌, ◌≤◌, ◌<◌}
use native.Mathlib.Nat.{le_of_suc-le-suc, not-suc-le-zero, mul-zero, mul-suc, le_trans, zero-add}
use native.Mathlib.Omega.{arith}
use lib.ListN.{length, take, drop, length-append}
use lib.Seq.{drop-append-add, drop_at, drop-drop, take_all, take_at}
use lib.Pow.{pow-add, pow_mono}
use Rattle.model.specs.Bits.{bit, mask}
use Rattle.model.specs.Image.{join, width, words}
use Rattle.model.specs.Models.Sections.{chunk}
use Rattle.model.specs.Models.LayOut.{set, three, two}
use Rattle.model.specs.Models.Words.{value}
use Rattle.model.proofs.Laws.Bits.{mask_same}
use Rattle.model.proofs.Words.Bits.{bit_mask, mask_lt}

-- ---- a set as words
pub length_words : (w n : ℕ) → length (words w n) ≡ w
length_words zero n = refl
length_words (suc w) n = ap suc (length_words w (n / 2 ^ 64))

-- the bits of w words, and that W words have room for m states
abbrev pub wide : ℕ → ℕ
wide zero = 0
wide (suc w) = 64 + wide w

wide_is : (w : ℕ) → wide w ≡ 64 * w
wide_is zero = refl
wide_is (suc w) = omega (arith, wide_is w)

pub room : (m : ℕ) → m ≤ wide (width m)
room m = omega (arith, wide_is (width m))

pub val_words : (w n : ℕ) → n < 2 ^ wide w → value (words w n) ≡ n
val_words zero n h = omega arith
val_words (suc w) n h = omega (arith, val_words w (n / 2 ^ 64) (omega (arith, pow-add 2 64 (wide w))))

-- THE BITS OF A SET'S WORDS ARE THE SET
pub set_bit : (m W : ℕ) (f : ℕ → Bool) → m ≤ wide W → (x : ℕ) → x < m → bit (value (set m W f)) x ≡ f x
set_bit m W f h x l = ap (λ (n : ℕ). bit n x) (val_words W (mask m f) (le_trans (mask_lt m f) (pow_mono h))) ∙ bit_mask m x f l

pub length-set : (m W : ℕ) (f : ℕ → Bool) → length (set m W f) ≡ W
length-set m W f = length_words W (mask m f)

pub set_same : (m W : ℕ) (f g : ℕ → Bool) → ((x : ℕ) → x < m → f x ≡ g x) → set m W f ≡ set m W g
set_same m W f g h = ap (words W) (mask_same m f g h)

-- ---- the three masks of one depth
module _ (m W : ℕ) (f g h : ℕ → Bool) where
  pub length_three : length (three m W f g h) ≡ 3 * W
  length_three =
      omega (
        arith,
        length-append (set m W f) (set m W g ++ set m W h),
        length-append (set m W g) (set m W h),
        length-set m W f,
        length-set m W g,
        length-set m W h,
      )

  pub three_0 : chunk W 0 (three m W f g h) ≡ set m W f
  three_0 = ap (λ (j : ℕ). take W (drop j (three m W f g h))) (mul-zero W) ∙ take_at (set m W f) (set m W g ++ set m W h) W (length-set m W f)

  pub three_1 : chunk W 1 (three m W f g h) ≡ set m W g
  three_1 =
      ap (take W) (drop_at (set m W f) (set m W g ++ set m W h) (W * 1) (let e : length (set m W f) ≡ W * 1 = omega (arith, length-set m W f) in e))
      ∙ take_at (set m W g) (set m W h) W (length-set m W g)

  pub three_2 : chunk W 2 (three m W f g h) ≡ set m W h
  three_2 =
      ap (λ (l : List ℕ). take W (drop (W * 2) l)) (sym (append_assoc (set m W f) (set m W g) (set m W h)))
      ∙ ap (take W) (drop_at (set m W f ++ set m W g) (set m W h) (W * 2) long)
      ∙ take_all W (set m W h) (omega (arith, length-set m W h))
    where
      long : length (set m W f ++ set m W g) ≡ W * 2
      long = omega (arith, length-append (set m W f) (set m W g), length-set m W f, length-set m W g)

-- ---- the two masks of the back edges of one depth
module _ (m W : ℕ) (f g : ℕ → Bool) where
  pub length_two : length (two m W f g) ≡ 2 * W
  length_two = omega (arith, length-append (set m W f) (set m W g), length-set m W f, length-set m W g)

  pub two_0 : chunk W 0 (two m W f g) ≡ set m W f
  two_0 = ap (λ (j : ℕ). take W (drop j (two m W f g))) (mul-zero W) ∙ take_at (set m W f) (set m W g) W (length-set m W f)

  pub two_1 : chunk W 1 (two m W f g) ≡ set m W g
  two_1 =
      ap (take W) (drop_at (set m W f) (set m W g) (W * 1) (let e : length (set m W f) ≡ W * 1 = omega (arith, length-set m W f) in e))
      ∙ take_all W (set m W g) (omega (arith, length-set m W g))

-- ---- parts of w words each
module _ (w : ℕ) (f : ℕ → List ℕ) (same : (k : ℕ) → length (f k) ≡ w) where
  pub length_join : (n a : ℕ) → length (join n a f) ≡ w * n
  length_join zero a = sym (mul-zero w)
  length_join (suc n) a = length-append (f a) (join n (suc a) f) ∙ omega (arith, same a, length_join n (suc a), mul-suc w n)

  chunk_from : (n a k : ℕ) (r : List ℕ) → k < n → chunk w k (join n a f ++ r) ≡ f (a + k)
  chunk_from zero a k r h = absurd (not-suc-le-zero h)
  chunk_from (suc n) a zero r h =
      ap (λ (j : ℕ). take w (drop j ((f a ++ join n (suc a) f) ++ r))) (mul-zero w)
      ∙ ap (take w) (append_assoc (f a) (join n (suc a) f) r)
      ∙ take_at (f a) (join n (suc a) f ++ r) w (same a)
      ∙ (let e : a ≡ a + 0 = omega arith in ap f e)
  chunk_from (suc n) a (suc k) r h =
      ap₂ (λ (j : ℕ) (l : List ℕ). take w (drop j l)) (let e : w * suc k ≡ length (f a) + w * k = omega (arith, same a, mul-suc w k) in e)
      (append_assoc (f a) (join n (suc a) f) r)
      ∙ ap (take w) (drop-append-add (f a) (join n (suc a) f ++ r) (w * k))
      ∙ chunk_from n (suc a) k r (le_of_suc-le-suc h)
      ∙ (let e : suc a + k ≡ a + suc k = omega arith in ap f e)

  -- PART k IS WHAT f GIVES FOR k
  pub chunk_join : (n k : ℕ) (r : List ℕ) → k < n → chunk w k (join n 0 f ++ r) ≡ f k
  chunk_join n k r h = chunk_from n 0 k r h ∙ ap f (zero-add k)

  pub chunk_join_end : (n k : ℕ) → k < n → chunk w k (join n 0 f) ≡ f k
  chunk_join_end n k h = ap (chunk w k) (sym (append-nil (join n 0 f))) ∙ chunk_join n k [] h
  -- past the parts and the count of the next section

-- what comes after a section: its words from place a on, n of them, and the count of the next
pub past_section : (ws xs ys : List ℕ) (a n c : ℕ) → drop a ws ≡ xs ++ (c ∷ ys) → length xs ≡ n → drop (suc (a + n)) ws ≡ ys
past_section ws xs ys a n c e l =
    (let q : suc (a + n) ≡ a + n + 1 = omega arith in ap (λ (k : ℕ). drop k ws) q) ∙ sym (drop-drop 1 (a + n) ws)
    ∙ ap (drop 1) (sym (drop-drop n a ws) ∙ ap (drop n) e ∙ drop_at xs (c ∷ ys) n l)

-- parts that are equal for each number that comes
pub join_same : (n a : ℕ) (f g : ℕ → List ℕ) → ((k : ℕ) → k < a + n → f k ≡ g k) → join n a f ≡ join n a g
join_same zero a f g h = refl
join_same (suc n) a f g h = ap₂ ◌++◌ (h a (omega arith)) (join_same n (suc a) f g (λ k l. h k (omega arith)))
