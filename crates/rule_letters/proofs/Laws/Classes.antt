-- CLASSES AS FOUR WORDS: a mask by its words, the words of a span by two runs from 0 on, one byte, and the bytes of either of two classes.
use mathlib.Core.Path.{◌≡◌, refl, sym, ap, ap₂, ◌∙◌}
use mathlib.Core.Logic.{◌⊎◌, inl, inr}
use mathlib.Core.Bool.{Bool, false, ◌&&◌, ◌||◌, and-false}
use mathlib.Core.List.{List, [], ◌∷◌}
use Prim.Native.Nat.{ℕ, zero, suc, ◌+◌, ◌-◌, ◌*◌, ◌/◌, ◌%◌, ◌^◌, ◌≤◌, ◌<◌}
use native.Mathlib.Nat.{mul_assoc, mul_comm, pow-suc}
use native.Mathlib.Numerals.{add-one}
use native.Mathlib.Omega.{arith}
use lib.Bits.{bit_or, or_lt}
use lib.Dec.{leb, ltb, ltb→lt, lt→ltb, leb-suc-suc, leb-suc-zero}
use lib.ListN.{length}
use lib.Pow.{pow-lt}
use Rattle.model.specs.Bits.{bit, digit, mask}
use Rattle.model.specs.Grammar.{span}
use Rattle.model.specs.Image.{words}
use Rattle.model.specs.Models.Words.{Fit, or_words, value}
use Rattle.model.proofs.Laws.Bits.{mask_same}
use Rattle.model.proofs.Laws.Bool.{le_false, le_or_lt, le_true, same_truth}
use Rattle.model.proofs.Words.Bits.{bit_ext, bit-or}
use Rattle.model.proofs.Words.Holds.{Near, val_below}
use Rattle.model.proofs.Words.Operations.{near_or}
use Rattle.rule_letters.specs.Classes.{below_word, bytes_of, span_word, words_of}
use Rattle.rule_letters.specs.declared.classes.Class.{Class}

-- ---- a mask of m + n bits: the low m, and n more above them
mask_parts : (m n : ℕ) (f : ℕ → Bool) → mask (m + n) f ≡ mask m f + 2 ^ m * mask n (λ i. f (m + i))
mask_parts zero n f =
    let k : zero + n ≡ n = omega arith in
    ap (λ (p : ℕ). mask p f) k ∙ mask_same n f (λ i. f (0 + i)) (λ i h. let d : i ≡ 0 + i = omega arith in ap f d) ∙ once (mask n (λ i. f (0 + i)))
  where
    once : (v : ℕ) → v ≡ 0 + 1 * v
    once v = omega arith
mask_parts (suc m) n f =
    let k : suc m + n ≡ suc (m + n) = omega arith in
    ap (λ (p : ℕ). mask p f) k
    ∙ ap (λ (v : ℕ). digit (f zero) + 2 * v) (mask_parts m n (λ i. f (suc i)))
    ∙ ap (λ (v : ℕ). digit (f zero) + 2 * (mask m (λ i. f (suc i)) + 2 ^ m * v))
    (mask_same n (λ i. f (suc (m + i))) (λ i. f (suc m + i)) (λ i h. let d : suc (m + i) ≡ suc m + i = omega arith in ap f d))
    ∙ twice (digit (f zero)) (mask m (λ i. f (suc i))) (2 ^ m) (mask n (λ i. f (suc m + i)))
    ∙ ap (λ (q : ℕ). mask (suc m) f + q * mask n (λ i. f (suc m + i))) (sym (pow-suc 2 m))
  where
    twice : (d a p v : ℕ) → d + 2 * (a + p * v) ≡ d + 2 * a + p * 2 * v
    twice d a p v = omega (arith, mul_assoc p 2 v, mul_assoc 2 p v, ap (λ (n : ℕ). n * v) (mul_comm p 2))

-- A MASK OF 256 BITS BY ITS FOUR WORDS
abbrev word : (ℕ → Bool) → ℕ → ℕ
word f base = mask 64 (λ b. f (base + b))

mask-words : (f : ℕ → Bool) → mask 256 f ≡ value (word f 0 ∷ word f 64 ∷ word f 128 ∷ word f 192 ∷ [])
mask-words f =
    mask_parts 64 192 f ∙ ap₂ (λ (a v : ℕ). a + 2 ^ 64 * v) (mask_same 64 f (λ b. f (0 + b)) (λ i h. let d : i ≡ 0 + i = omega arith in ap f d))
    (mask_parts 64 128 (λ i. f (64 + i)) ∙ ap (λ (v : ℕ). word f 64 + 2 ^ 64 * v)
    (mask_same 128 (λ i. f (64 + (64 + i))) (λ i. f (128 + i)) (λ i h. let d : 64 + (64 + i) ≡ 128 + i = omega arith in ap f d)
    ∙ mask_parts 64 64 (λ i. f (128 + i)) ∙ ap (λ (v : ℕ). word f 128 + 2 ^ 64 * v)
    (mask_same 64 (λ i. f (128 + (64 + i))) (λ i. f (192 + i)) (λ i h. let d : 128 + (64 + i) ≡ 192 + i = omega arith in ap f d) ∙ last (word f 192))))
  where
    last : (v : ℕ) → v ≡ v + 2 ^ 64 * 0
    last v = omega arith

span_words : (lo hi : ℕ) → value (span_word lo hi 0 ∷ span_word lo hi 64 ∷ span_word lo hi 128 ∷ span_word lo hi 192 ∷ []) ≡ span lo hi
unfolding span_word
span_words lo hi = sym (mask-words (λ b. leb lo b && leb b hi))

-- four words that are those of a span
pub span_of : (lo hi : ℕ) {a b c d : ℕ} → a ≡ span_word lo hi 0 → b ≡ span_word lo hi 64 → c ≡ span_word lo hi 128 → d ≡ span_word lo hi 192
    → value (a ∷ b ∷ c ∷ d ∷ []) ≡ span lo hi
span_of lo hi ea eb ec ed = rw (ea, eb, ec, ed) (span_words lo hi)

-- ---- a run of k bits from 0 on
none : (m : ℕ) → mask m (λ b. ltb b 0) ≡ 0
none zero = refl
none (suc m) = let e = mask_same m (λ b. ltb (suc b) 0) (λ b. ltb b 0) (λ b h. leb-suc-zero (suc b) ∙ sym (leb-suc-zero b)) in omega (arith, none m)

run : (m k : ℕ) → k ≤ m → mask m (λ b. ltb b k) + 1 ≡ 2 ^ k
run m zero h = ap (λ (v : ℕ). v + 1) (none m)
run zero (suc k) h = absurd (omega arith)
run (suc m) (suc k) h =
    let e = mask_same m (λ b. ltb (suc b) (suc k)) (λ b. ltb b k) (λ b l. leb-suc-suc (suc b) k) in
    let d = ap digit (le_true 1 (suc k) (omega arith)) in
    omega (arith, run m k (omega arith), pow-suc 2 k)

some : (m k : ℕ) → k ≤ m → mask m (λ b. ltb b k) ≡ 2 ^ k - 1
some m k h = omega (arith, run m k h)

all : (m k : ℕ) → m ≤ k → mask m (λ b. ltb b k) ≡ 2 ^ m - 1
all m k h =
    mask_same m (λ b. ltb b k) (λ b. ltb b m) (λ b l. le_true (suc b) k (omega arith) ∙ sym (le_true (suc b) m l)) ∙ some m m (omega arith)

-- from base on: none, all, or some of the 64
shifted : (n base : ℕ) → below_word n base ≡ mask 64 (λ b. ltb b (n - base))
unfolding below_word
shifted n base = mask_same 64 (λ b. ltb (base + b) n) (λ b. ltb b (n - base)) (λ b h. same b)
  where
    same : (b : ℕ) → ltb (base + b) n ≡ ltb b (n - base)
    same b =
        same_truth (ltb (base + b) n) (ltb b (n - base))
        (λ t. lt→ltb b (n - base) (omega (arith, ltb→lt (base + b) n t)))
        (λ t. lt→ltb (base + b) n (omega (arith, ltb→lt b (n - base) t)))

module _ (n base : ℕ) where
  pub below_none : n ≤ base → below_word n base ≡ 0
  below_none h = let k : n - base ≡ 0 = omega arith in shifted n base ∙ ap (λ (j : ℕ). mask 64 (λ b. ltb b j)) k ∙ none 64

  pub below_all : base + 64 ≤ n → below_word n base ≡ 2 ^ 64 - 1
  below_all h = shifted n base ∙ all 64 (n - base) (omega arith)

  pub below_some : n < base + 64 → below_word n base ≡ 2 ^ (n - base) - 1
  below_some h = shifted n base ∙ some 64 (n - base) (omega arith)

pub power_fits : (k : ℕ) → k < 64 → 1 * 2 ^ k % 2 ^ 64 ≡ 2 ^ k
power_fits k h = let p : 2 ^ k < 2 ^ 64 = pow-lt h in omega arith

-- ---- a span is the bytes up to hi less those below lo
mask_sum : (m : ℕ) (f g h : ℕ → Bool) → ((b : ℕ) → digit (f b) + digit (g b) ≡ digit (h b)) → mask m f + mask m g ≡ mask m h
mask_sum zero f g h e = refl
mask_sum (suc m) f g h e = omega (arith, e 0, mask_sum m (λ b. f (suc b)) (λ b. g (suc b)) (λ b. h (suc b)) (λ b. e (suc b)))

parted : (lo hi x : ℕ) → lo ≤ hi → digit (leb lo x && leb x hi) + digit (ltb x lo) ≡ digit (ltb x (hi + 1))
parted lo hi x h = go (le_or_lt lo x) (le_or_lt x hi)
  where
    go : (lo ≤ x) ⊎ (x < lo) → (x ≤ hi) ⊎ (hi < x) → digit (leb lo x && leb x hi) + digit (ltb x lo) ≡ digit (ltb x (hi + 1))
    go (inl p) (inl q) = rw (le_true lo x p, le_true x hi q, le_false (suc x) lo (omega arith), le_true (suc x) (hi + 1) (omega arith))
    go (inl p) (inr q) = rw (le_true lo x p, le_false x hi q, le_false (suc x) lo (omega arith), le_false (suc x) (hi + 1) (omega arith))
    go (inr p) (inl q) = rw (le_false lo x p, le_true (suc x) lo p, le_true (suc x) (hi + 1) (omega arith))
    go (inr p) (inr q) = absurd (omega arith)

pub span_difference : (lo hi base : ℕ) → lo ≤ hi → span_word lo hi base + below_word lo base ≡ below_word (hi + 1) base
unfolding span_word below_word
span_difference lo hi base h =
    mask_sum 64 (λ b. leb lo (base + b) && leb (base + b) hi) (λ b. ltb (base + b) lo) (λ b. ltb (base + b) (hi + 1)) (λ b. parted lo hi (base + b) h)

-- ---- one byte, and none
one_bit : (m b : ℕ) → b < m → mask m (λ x. leb b x && leb x b) ≡ 2 ^ b
one_bit m b h =
    let s = mask_sum m (λ x. leb b x && leb x b) (λ x. ltb x b) (λ x. ltb x (b + 1)) (λ x. parted b b x (omega arith)) in
    let p : 2 ^ (b + 1) ≡ 2 ^ b * 2 = ap (λ (k : ℕ). 2 ^ k) (add-one b) ∙ pow-suc 2 b in
    omega (arith, run m b (omega arith), run m (b + 1) (omega arith))

pub span_one : (b : ℕ) → b < 256 → span b b ≡ 2 ^ b
span_one b h = one_bit 256 b h

pub span_none : (lo hi : ℕ) → hi < lo → span lo hi ≡ 0
span_none lo hi h = mask_same 256 (λ b. leb lo b && leb b hi) (λ b. ltb b 0) (λ b l. go b (le_or_lt lo b) ∙ sym (leb-suc-zero b)) ∙ none 256
  where
    go : (b : ℕ) → (lo ≤ b) ⊎ (b < lo) → (leb lo b && leb b hi) ≡ false
    go b (inl p) = rw (le_false b hi (omega arith), and-false (leb lo b))
    go b (inr p) = rw (le_false lo b p)

-- ---- the bytes of either
pub or_value : (xs ys : List ℕ) → length xs ≡ 4 → length ys ≡ 4 → Fit xs → Fit ys → value (or_words xs ys) ≡ bit_or (value xs) (value ys)
or_value xs ys lx ly fx fy =
    bit_ext 256 (value (or_words xs ys)) (bit_or (value xs) (value ys)) (val_below 4 (or_words xs ys) both.len both.fit)
    (or_lt 256 (value xs) (value ys) (val_below 4 xs lx fx) (val_below 4 ys ly fy))
    (λ i h. both.bits i h ∙ sym (bit-or i (value xs) (value ys)))
  where
    near : (ws : List ℕ) → length ws ≡ 4 → Fit ws → Near 256 4 ws (bit (value ws))
    near ws l f = record { len = l; fit = f; bits = λ x h. refl }

    both : Near 256 4 (or_words xs ys) (λ x. bit (value xs) x || bit (value ys) x)
    both = near_or (near xs lx fx) (near ys ly fy)

-- ---- a class's words
words_value : (ws : List ℕ) → Fit ws → words (length ws) (value ws) ≡ ws
words_value [] f = refl
words_value (w ∷ ws) f =
    let low : (w + 2 ^ 64 * value ws) % 2 ^ 64 ≡ w = omega arith in
    let high : (w + 2 ^ 64 * value ws) / 2 ^ 64 ≡ value ws = omega arith in
    ap₂ (λ (x : ℕ) (xs : List ℕ). x ∷ xs) low (ap (words (length ws)) high ∙ words_value ws f.1)

pub class_words : (c : Class) → Fit (words_of c) → words 4 (bytes_of c) ≡ words_of c
unfolding bytes_of
class_words c f = words_value (words_of c) f

-- no byte
words_none : (ws : List ℕ) → value ws ≡ 0 → ws ≡ words (length ws) 0
words_none [] h = refl
words_none (w ∷ ws) h =
    let low : w ≡ 0 = omega arith in
    let high : value ws ≡ 0 = omega arith in
    ap₂ (λ (x : ℕ) (xs : List ℕ). x ∷ xs) low (words_none ws high)

pub no_words : (c : Class) → bytes_of c ≡ 0 → words_of c ≡ words 4 0
unfolding bytes_of
no_words c h = words_none (words_of c) h
