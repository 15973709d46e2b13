-- A STATE'S BIT IN THE ROWS OF BYTES: a row in the midst of the words written gets its bit where it stands, so the rows of a class's word get theirs one
-- after another, and rows that hold the states before a token then hold the token's too.
use mathlib.Core.Logic.{◌≢◌}
use mathlib.Core.Path.{◌≡◌, refl, sym, ap, ap₂, ◌∙◌}
use mathlib.Core.Bool.{Bool, true, false}
use mathlib.Core.List.{List, ◌++◌, append_assoc}
use Prim.Native.Nat.{ℕ, zero, suc, ◌+◌, ◌-◌, ◌*◌, ◌/◌, ◌%◌, ◌^◌, ◌≤◌, ◌<◌}
use native.Mathlib.Nat.{add-zero, mul_comm, mul-suc, mul-zero, zero-add}
use native.Mathlib.Omega.{arith}
use lib.Bits.{bit_and, bit_or}
use lib.Dec.{eqb}
use lib.ListN.{get_or-append, drop, get_or, length, length-append, length-set, replicate, replicate-append-replicate, set, take}
use lib.Seq.{get_or-append-add, get_or-take, length-take-le, set-append_left, sets, take-set-lt}
use Rattle.std.proofs.lemmas.List.{set-append_right, take-replicate}
use Rattle.model.specs.Bits.{bit}
use Rattle.model.specs.Image.{join}
use Rattle.model.specs.Models.Words.{put_bit}
use Rattle.model.proofs.Image.Rows.{length_join}
use Rattle.model.proofs.Laws.Bits.{bit_zero}
use Rattle.model.proofs.Laws.Bool.{unequal}
use Rattle.mask.proofs.Laws.Bits.{read_bit}
use Rattle.image.specs.Work.{in_class, leads, letter_row, quarter_part, with_bit, with_state}
use Rattle.image.proofs.Laws.Letters.{set_with, set_without}
use Rattle.image.proofs.Laws.Lengths.{letter_long}
use Rattle.image.proofs.Laws.Parts.{join_snoc}
use Rattle.image.proofs.Laws.Stores.{sets_between}

-- ---- a store in the midst of words
module _ (xs r rest : List ℕ) (p j : ℕ) (e : p ≡ length xs) (h : j < length r) where
  set_mid : (v : ℕ) → set (xs ++ (r ++ rest)) (p + j) v ≡ xs ++ (set r j v ++ rest)
  set_mid v =
      let k : p + j - p ≡ j = omega arith in
      set-append_right xs (r ++ rest) p (p + j) v (sym e) (omega arith)
      ∙ ap (λ (ws : List ℕ). xs ++ ws) (ap (λ (i : ℕ). set (r ++ rest) i v) k ∙ set-append_left r rest j v h)

  get_d_mid : get_or (xs ++ (r ++ rest)) (p + j) 0 ≡ get_or r j 0
  get_d_mid =
      ap (λ (n : ℕ). get_or (xs ++ (r ++ rest)) (n + j) 0) e ∙ get_or-append-add xs (r ++ rest) j 0 ∙ get_or-append r rest 0 j h

-- a row with a bit, or without
abbrev row_with : Bool → List ℕ → ℕ → List ℕ
row_with true r s = put_bit r s
row_with false r s = r

with_mid : (a : Bool) (xs r rest : List ℕ) (p s : ℕ) → p ≡ length xs → s / 64 < length r → with_bit a p s (xs ++ (r ++ rest)) ≡ xs ++ (row_with a r s ++ rest)
with_mid false xs r rest p s e h = refl
with_mid true xs r rest p s e h =
    set_mid xs r rest p (s / 64) e h (bit_or (get_or (xs ++ (r ++ rest)) (p + s / 64) 0) (2 ^ (s % 64)))
    ∙ ap (λ (w : ℕ). xs ++ (set r (s / 64) (bit_or w (2 ^ (s % 64))) ++ rest)) (get_d_mid xs r rest p (s / 64) e h)

-- ---- THE ROWS OF A CLASS'S WORD
abbrev Long : ℕ → (ℕ → List ℕ) → Type 0
Long W f = (b : ℕ) → length (f b) ≡ W

module _ (W c s a : ℕ) (f g : ℕ → List ℕ) (lf : Long W f) (lg : Long W g) (h : s / 64 < W) where
  abbrev Gets : ℕ → Type 0
  Gets n = (k : ℕ) → k < n → row_with (bit c k) (f (a + k)) s ≡ g (a + k)

  -- between any other words
  rows_with : (before : List ℕ) (n at : ℕ) (rest : List ℕ) → Gets n → length before ≡ at
      → with_state n W c s at (before ++ (join n a f ++ rest)) ≡ before ++ (join n a g ++ rest)
  rows_with before zero at rest same e = refl
  rows_with before (suc n) at rest same e =
      let r = f (a + n) in
      let done = before ++ join n a g in
      let put = with_bit (bit c n) (at + W * n) s in
      ap (λ (ws : List ℕ). put (with_state n W c s at (before ++ ws))) (ap (λ (ws : List ℕ). ws ++ rest) (join_snoc n a f) ∙ append_assoc (join n a f) r rest)
      ∙ ap put (rows_with before n at (r ++ rest) (λ k l. same k (omega arith)) e ∙ sym (append_assoc before (join n a g) (r ++ rest)))
      ∙ with_mid (bit c n) done r rest (at + W * n) s (omega (arith, length-append before (join n a g), length_join W g lg n a)) (omega (arith, lf (a + n)))
      ∙ ap (λ (ws : List ℕ). done ++ (ws ++ rest)) (same n (omega arith))
      ∙ append_assoc before (join n a g) (g (a + n) ++ rest)
      ∙ ap (λ (ws : List ℕ). before ++ ws) (sym (append_assoc (join n a g) (g (a + n)) rest) ∙ ap (λ (ws : List ℕ). ws ++ rest) (sym (join_snoc n a g)))

  -- written over other words
  rows_over : (l : List ℕ) (n at : ℕ) → Gets n → at + W * n ≤ length l → with_state n W c s at (sets l at (join n a f)) ≡ sets l at (join n a g)
  rows_over l n at same fits =
      let ef = length_join W f lf n a in
      let eg = length_join W g lg n a in
      let before = take at l in
      ap (with_state n W c s at) (sets_between l at (join n a f) (omega arith))
      ∙ rows_with before n at (drop (at + length (join n a f)) l) same (length-take-le at l (omega arith))
      ∙ ap (λ (k : ℕ). before ++ (join n a g ++ drop (at + k) l)) (ef ∙ sym eg)
      ∙ sym (sets_between l at (join n a g) (omega arith))

-- a class's word without a bit
pub no-state : (n W s at : ℕ) (ws : List ℕ) → with_state n W 0 s at ws ≡ ws
no-state zero W s at ws = refl
no-state (suc n) W s at ws =
    ap (λ (a : Bool). with_bit a (at + W * n) s (with_state n W 0 s at ws)) (bit_zero n) ∙ no-state n W s at ws

-- ---- ONE TOKEN MORE
put_take : (W : ℕ) (r : List ℕ) (s : ℕ) → s / 64 < W → put_bit (take W r) s ≡ take W (put_bit r s)
put_take W r s h =
    ap (λ (w : ℕ). set (take W r) (s / 64) (bit_or w (2 ^ (s % 64)))) (get_or-take W r (s / 64) 0 h)
    ∙ sym (take-set-lt W r (s / 64) (bit_or (get_or r (s / 64) 0) (2 ^ (s % 64))) h)

module _ (W : ℕ) (row : List ℕ) (i : ℕ) (narrow : W ≤ 8) (h : suc i < 64 * W) where
  row_more : (b : ℕ) (a : Bool) → in_class row b i ≡ a → row_with a (take W (letter_row row i b)) (suc i) ≡ take W (letter_row row (suc i) b)
  row_more b true e =
      put_take W (letter_row row i b) (suc i) (omega arith) ∙ ap (take W) (set_with (suc i) (leads row b) (omega arith) e)
  row_more b false e = ap (take W) (set_without (suc i) (leads row b) (omega arith) e)

  pub token_more : (l : List ℕ) (at q : ℕ) → at + 64 * W ≤ length l
      → with_state 64 W (get_or row (5 * i + 1 + q) 0) (suc i) at (sets l at (quarter_part W row i q)) ≡ sets l at (quarter_part W row (suc i) q)
  token_more l at q fits =
      rows_over W (get_or row (5 * i + 1 + q) 0) (suc i) (64 * q) (λ b. take W (letter_row row i b)) (λ b. take W (letter_row row (suc i) b))
      (letter_long row i narrow) (letter_long row (suc i) narrow) (omega arith) l 64 at
      (λ k l. row_more (64 * q + k) (bit (get_or row (5 * i + 1 + q) 0) k) (same k l)) (omega arith)
    where
      same : (k : ℕ) → k < 64 → in_class row (64 * q + k) i ≡ bit (get_or row (5 * i + 1 + q) 0) k
      same k l =
          let e : (64 * q + k) / 64 ≡ q = omega arith in
          let d : (64 * q + k) % 64 ≡ k = omega arith in
          ap₂ (λ (n m : ℕ). bit (get_or row (5 * i + 1 + n) 0) m) e d

-- ---- BEFORE ANY TOKEN the rows are empty
join_none : (W : ℕ) (row : List ℕ) → W ≤ 8 → (n a : ℕ) → replicate (n * W) 0 ≡ join n a (λ b. take W (letter_row row 0 b))
join_none W row h zero a = let e : 0 * W ≡ 0 = omega arith in ap (λ (k : ℕ). replicate {A = ℕ} k 0) e
join_none W row h (suc n) a =
    let e : suc n * W ≡ W + n * W = omega arith in
    ap (λ (k : ℕ). replicate {A = ℕ} k 0) e ∙ sym (replicate-append-replicate W (n * W) 0)
    ∙ ap₂ ◌++◌ (sym (take-replicate {X = ℕ} W 8 0 h)) (join_none W row h n (suc a))

pub no_token : (W : ℕ) (row : List ℕ) → W ≤ 8 → (q : ℕ) → replicate (64 * W) 0 ≡ quarter_part W row 0 q
no_token W row h q = join_none W row h 64 (64 * q)

-- ---- THE FOUR QUARTERS are all bytes
join_on : (n m a : ℕ) (f : ℕ → List ℕ) → join n a f ++ join m (a + n) f ≡ join (n + m) a f
join_on zero m a f = ap₂ (λ (k b : ℕ). join k b f) (sym (zero-add m)) (add-zero a)
join_on (suc n) m a f =
    let e : a + suc n ≡ suc a + n = omega arith in
    let d : suc n + m ≡ suc (n + m) = omega arith in
    append_assoc (f a) (join n (suc a) f) (join m (a + suc n) f)
    ∙ ap (λ (ws : List ℕ). f a ++ ws) (ap (λ (b : ℕ). join n (suc a) f ++ join m b f) e ∙ join_on n m (suc a) f)
    ∙ ap (λ (k : ℕ). join k a f) (sym d)

join_parts : (w n a : ℕ) (f : ℕ → List ℕ) → join n a (λ q. join w (w * q) f) ≡ join (w * n) (w * a) f
join_parts w zero a f = ap (λ (k : ℕ). join k (w * a) f) (sym (mul-zero w))
join_parts w (suc n) a f =
    ap (λ (ws : List ℕ). join w (w * a) f ++ ws)
    (join_parts w n (suc a) f ∙ ap (λ (b : ℕ). join (w * n) b f) (let d : w * suc a ≡ w * a + w = omega (arith, mul-suc w a) in d))
    ∙ join_on w (w * n) (w * a) f ∙ ap (λ (k : ℕ). join k (w * a) f) (let d : w + w * n ≡ w * suc n = omega (arith, mul-suc w n) in d)

pub quarters : (W : ℕ) (row : List ℕ) (n : ℕ) → join 4 0 (quarter_part W row n) ≡ join 256 0 (λ b. take W (letter_row row n b))
quarters W row n = join_parts 64 4 0 (λ b. take W (letter_row row n b))

pub quarter_long : (W : ℕ) (row : List ℕ) (n : ℕ) → W ≤ 8 → (q : ℕ) → length (quarter_part W row n q) ≡ 64 * W
quarter_long W row n narrow q =
    length_join W (λ b. take W (letter_row row n b)) (letter_long row n narrow) 64 (64 * q) ∙ mul_comm W 64

-- ---- how the code reads a class's word
pub length_with : (a : Bool) (place s : ℕ) (ws : List ℕ) → length (with_bit a place s ws) ≡ length ws
length_with true place s ws = length-set ws (place + s / 64) (bit_or (get_or ws (place + s / 64) 0) (2 ^ (s % 64)))
length_with false place s ws = refl

module _ (c b : ℕ) where
  pub has_bit : bit_and (c / 2 ^ b) 1 ≡ 1 → bit c b ≡ true
  has_bit e = sym (read_bit c b) ∙ ap (λ (n : ℕ). eqb n 1) e

  pub has_not : bit_and (c / 2 ^ b) 1 ≢ 1 → bit c b ≡ false
  has_not f = sym (read_bit c b) ∙ unequal (bit_and (c / 2 ^ b) 1) 1 f
