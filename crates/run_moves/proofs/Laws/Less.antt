-- A SOURCE KEPT LESS ONE: over any number of words (source - 1) - from is the complement of from - source, where source is one more than what is kept.
-- At each word exactly one of three hands on to the next: the sum with one, the first difference or the second.
use mathlib.Core.Path.{◌≡◌, refl, sym, ap, ap₂, ◌∙◌}
use mathlib.Core.Logic.{◌⊎◌, inl, inr}
use mathlib.Core.Bool.{Bool, true, false, ◌&&◌, ◌||◌}
use mathlib.Core.List.{List, [], ◌∷◌}
use Prim.Native.Nat.{ℕ, zero, suc, ◌+◌, ◌-◌, ◌^◌, ◌≤◌, ◌<◌}
use native.Mathlib.Nat.{eq-or-lt_of_le}
use native.Mathlib.Omega.{arith}
use lib.Dec.{T, eqb, ltb, lt→ltb, ltb→lt}
use lib.ListN.{length, replicate, take}
use lib.Seq.{take_all}
use Rattle.model.specs.Bits.{digit}
use Rattle.model.specs.Models.Words.{borrow_out, Fit, not_words, subtract_words, wrap_add, wrap_sub}
use Rattle.model.proofs.Laws.Bool.{is_not, is_true, le_or_lt, or_left, or_right, or_split, unequal}
use Rattle.model.proofs.Words.Ripple.{digit_small}
use Rattle.mask.proofs.Laws.Carries.{difference_word}
use Rattle.run_moves.specs.Less.{less_one, plus_words, start_words}

pub take_plus : (n : ℕ) (xs : List ℕ) (c : Bool) → take n (plus_words xs c) ≡ plus_words (take n xs) c
take_plus zero xs c = refl
take_plus (suc n) [] c = refl
take_plus (suc n) (x ∷ xs) c = ap (λ (l : List ℕ). wrap_add x (digit c) ∷ l) (take_plus n xs (c && eqb x (2 ^ 64 - 1)))

-- the first words of words that fit in 64 bits fit too
pub fit_take : (n : ℕ) (xs : List ℕ) → Fit xs → Fit (take n xs)
fit_take zero xs F = tt
fit_take (suc n) [] F = tt
fit_take (suc n) (x ∷ xs) F = (F.0, fit_take n xs F.1)

-- ---- a difference of words by whether it borrows
borrows : (x y : ℕ) (b : Bool) → x < y + digit b → borrow_out x y b ≡ true
borrows x y b h = is_true (borrow_out x y b) (go (le_or_lt y x))
  where
    go : (y ≤ x) ⊎ (x < y) → T (ltb x y || ltb (wrap_sub x y) (digit b))
    go (inr l) = or_left (ltb x y) (ltb (wrap_sub x y) (digit b)) (lt→ltb x y l)
    go (inl l) =
        let e : wrap_sub x y ≡ 0 = omega (arith, digit_small b) in
        or_right (ltb x y) (ltb (wrap_sub x y) (digit b)) (lt→ltb (wrap_sub x y) (digit b) (omega (arith, digit_small b)))

keeps : (x y : ℕ) (b : Bool) → x < 2 ^ 64 → y + digit b ≤ x → borrow_out x y b ≡ false
keeps x y b hx h = is_not (borrow_out x y b) (λ t. go (or_split (ltb x y) (ltb (wrap_sub x y) (digit b)) t))
  where
    go : T (ltb x y) ⊎ T (ltb (wrap_sub x y) (digit b)) → ⊥
    go (inl t) = let l = ltb→lt x y t in omega arith
    go (inr t) = let l = ltb→lt (wrap_sub x y) (digit b) t in let e : wrap_sub x y ≡ x - y = omega arith in omega arith

borrowed : (x y : ℕ) (b : Bool) → x < 2 ^ 64 → y < 2 ^ 64 → x < y + digit b → difference_word x y b ≡ x + 2 ^ 64 - y - digit b
borrowed x y b hx hy h = go (le_or_lt y x)
  where
    go : (y ≤ x) ⊎ (x < y) → difference_word x y b ≡ x + 2 ^ 64 - y - digit b
    go (inr l) =
        let e : wrap_sub x y ≡ x + 2 ^ 64 - y = omega arith in
        ap (λ (s : ℕ). wrap_sub s (digit b)) e ∙ (let f : wrap_sub (x + 2 ^ 64 - y) (digit b) ≡ x + 2 ^ 64 - y - digit b = omega (arith, digit_small b) in f)
    go (inl l) =
        let e : wrap_sub x y ≡ 0 = omega (arith, digit_small b) in
        ap (λ (s : ℕ). wrap_sub s (digit b)) e ∙ (let f : wrap_sub 0 (digit b) ≡ x + 2 ^ 64 - y - digit b = omega (arith, digit_small b) in f)

kept : (x y : ℕ) (b : Bool) → x < 2 ^ 64 → y + digit b ≤ x → difference_word x y b ≡ x - y - digit b
kept x y b hx h =
    let e : wrap_sub x y ≡ x - y = omega arith in
    ap (λ (s : ℕ). wrap_sub s (digit b)) e ∙ (let f : wrap_sub (x - y) (digit b) ≡ x - y - digit b = omega (arith, digit_small b) in f)

-- ---- which of the three hands on
data State : Type 0 where
  plus : State
  left : State
  right : State

abbrev carry : State → Bool
carry plus = true
carry left = false
carry right = false

abbrev first : State → Bool
first plus = false
first left = true
first right = false

abbrev second : State → Bool
second plus = false
second left = false
second right = true

record Turn (s : State) (x f : ℕ) : Type 0 where
  next : State
  word : difference_word x f (first s) ≡ 2 ^ 64 - 1 - difference_word f (wrap_add x (digit (carry s))) (second s)
  carries : (carry s && eqb x (2 ^ 64 - 1)) ≡ carry next
  firsts : borrow_out x f (first s) ≡ first next
  seconds : borrow_out f (wrap_add x (digit (carry s))) (second s) ≡ second next

module _ (x f : ℕ) (hx : x < 2 ^ 64) (hf : f < 2 ^ 64) where
  same : wrap_add x 0 ≡ x
  same = omega arith

  -- what each difference gives, for a source y
  apart : {y : ℕ} (s : State) → wrap_add x (digit (carry s)) ≡ y → x < f + digit (first s) → y + digit (second s) ≤ f
      → x + 2 ^ 64 - f - digit (first s) ≡ 2 ^ 64 - 1 - (f - y - digit (second s)) → (carry s && eqb x (2 ^ 64 - 1)) ≡ false → Turn s x f
  apart {y} s e h l w c = record {
    next = left;
    word = borrowed x f (first s) hx hf h ∙ w ∙ ap (λ (d : ℕ). 2 ^ 64 - 1 - d) (sym (ap (λ (z : ℕ). difference_word f z (second s)) e ∙ kept f y (second s) hf l));
    carries = c;
    firsts = borrows x f (first s) h;
    seconds = ap (λ (z : ℕ). borrow_out f z (second s)) e ∙ keeps f y (second s) hf l;
  }

  within : {y : ℕ} (s : State) → y < 2 ^ 64 → wrap_add x (digit (carry s)) ≡ y → f + digit (first s) ≤ x → f < y + digit (second s)
      → x - f - digit (first s) ≡ 2 ^ 64 - 1 - (f + 2 ^ 64 - y - digit (second s)) → (carry s && eqb x (2 ^ 64 - 1)) ≡ false → Turn s x f
  within {y} s hy e h l w c = record {
    next = right;
    word = kept x f (first s) hx h ∙ w ∙ ap (λ (d : ℕ). 2 ^ 64 - 1 - d) (sym (ap (λ (z : ℕ). difference_word f z (second s)) e ∙ borrowed f y (second s) hf hy l));
    carries = c;
    firsts = keeps x f (first s) hx h;
    seconds = ap (λ (z : ℕ). borrow_out f z (second s)) e ∙ borrows f y (second s) l;
  }

  turn : (s : State) → Turn s x f
  turn plus = go (eq-or-lt_of_le (let l : x ≤ 2 ^ 64 - 1 = omega arith in l)) (le_or_lt f x)
    where
      go : (x ≡ 2 ^ 64 - 1) ⊎ (x < 2 ^ 64 - 1) → (f ≤ x) ⊎ (x < f) → Turn plus x f
      go (inl q) c = let e : wrap_add x 1 ≡ 0 = omega arith in record {
        next = plus;
        word = kept x f false hx (omega arith)
            ∙ (let w : x - f - 0 ≡ 2 ^ 64 - 1 - (f - 0 - 0) = omega arith in w)
            ∙ ap (λ (d : ℕ). 2 ^ 64 - 1 - d) (sym (ap (λ (z : ℕ). difference_word f z false) e ∙ kept f 0 false hf (omega arith)));
        carries = ap (λ (n : ℕ). eqb n (2 ^ 64 - 1)) q;
        firsts = keeps x f false hx (omega arith);
        seconds = ap (λ (z : ℕ). borrow_out f z false) e ∙ keeps f 0 false hf (omega arith);
      }
      go (inr l) (inr h) = let e : wrap_add x 1 ≡ x + 1 = omega arith in apart plus e (omega arith) (omega arith) (omega arith) (unequal x (2 ^ 64 - 1) (λ q. omega arith))
      go (inr l) (inl h) = let e : wrap_add x 1 ≡ x + 1 = omega arith in within plus (omega arith) e (omega arith) (omega arith) (omega arith) (unequal x (2 ^ 64 - 1) (λ q. omega arith))
  turn left = go (le_or_lt x f)
    where
      go : (x ≤ f) ⊎ (f < x) → Turn left x f
      go (inl h) = apart left same (omega arith) (omega arith) (omega arith) refl
      go (inr h) = within left hx same (omega arith) (omega arith) (omega arith) refl
  turn right = go (le_or_lt f x)
    where
      go : (f ≤ x) ⊎ (x < f) → Turn right x f
      go (inr h) = apart right same (omega arith) (omega arith) (omega arith) refl
      go (inl h) = within right hx same (omega arith) (omega arith) (omega arith) refl

opposite : (s : State) (xs fs : List ℕ) → Fit xs → Fit fs
    → subtract_words xs fs (first s) ≡ not_words (subtract_words fs (plus_words xs (carry s)) (second s))
opposite s [] [] X F = refl
opposite s [] (f ∷ fs) X F = refl
opposite s (x ∷ xs) [] X F = refl
opposite s (x ∷ xs) (f ∷ fs) X F =
    let t = turn x f X.0 F.0 s in
    ap₂ (λ (w : ℕ) (l : List ℕ). w ∷ l) t.word
    (ap (λ (b : Bool). subtract_words xs fs b) t.firsts ∙ opposite t.next xs fs X.1 F.1
    ∙ sym (ap₂ (λ (c b : Bool). not_words (subtract_words fs (plus_words xs c) b)) t.carries t.seconds))

-- THE COMPLEMENT
pub complement_less : (below from : List ℕ) → Fit below → Fit from → subtract_words below from false ≡ not_words (subtract_words from (plus_words below true) false)
complement_less below from B F = opposite plus below from B F

-- ---- what is kept is one less than the source
record Back (x y : ℕ) (b c : Bool) : Type 0 where
  word : wrap_add (difference_word x y b) (digit c) ≡ x
  hands : (c && eqb (difference_word x y b) (2 ^ 64 - 1)) ≡ borrow_out x y b

up : (x : ℕ) → 1 ≤ x → x < 2 ^ 64 → wrap_add (x - 1) 1 ≡ x
up x l h = omega arith

plain : (x : ℕ) → x < 2 ^ 64 → wrap_add x 0 ≡ x
plain x h = omega arith

back : (x y : ℕ) (b c : Bool) → x < 2 ^ 64 → y < 2 ^ 64 → y + digit b ≡ digit c → Back x y b c
back x y b false hx hy e =
    let z : x - y - digit b ≡ x = omega arith in
    let k = kept x y b hx (omega arith) ∙ z in
    record {
      word = ap (λ (d : ℕ). wrap_add d 0) k ∙ plain x hx;
      hands = sym (keeps x y b hx (omega arith));
    }
back x y b true hx hy e = go (le_or_lt 1 x)
  where
    go : (1 ≤ x) ⊎ (x < 1) → Back x y b true
    go (inl l) =
        let z : x - y - digit b ≡ x - 1 = omega arith in
        let k = kept x y b hx (omega arith) ∙ z in
        record {
          word = ap (λ (d : ℕ). wrap_add d 1) k ∙ up x l hx;
          hands = ap (λ (d : ℕ). eqb d (2 ^ 64 - 1)) k ∙ unequal (x - 1) (2 ^ 64 - 1) (λ q. omega arith) ∙ sym (keeps x y b hx (omega arith));
        }
    go (inr l) =
        let k : difference_word x y b ≡ 2 ^ 64 - 1 = borrowed x y b hx hy (omega arith) ∙ (let w : x + 2 ^ 64 - y - digit b ≡ 2 ^ 64 - 1 = omega arith in w) in
        record {
          word = ap (λ (d : ℕ). wrap_add d 1) k ∙ (let w : 0 ≡ x = omega arith in w);
          hands = ap (λ (d : ℕ). eqb d (2 ^ 64 - 1)) k ∙ sym (borrows x y b (omega arith));
        }

back_rest : (m : ℕ) (xs : List ℕ) (b : Bool) → length xs ≤ m → Fit xs → plus_words (subtract_words xs (replicate m 0) b) b ≡ xs
back_rest zero [] b h X = refl
back_rest zero (x ∷ xs) b h X = absurd (omega arith)
back_rest (suc m) [] b h X = refl
back_rest (suc m) (x ∷ xs) b h X =
    let B = back x 0 b b X.0 (omega arith) (omega arith) in
    ap₂ (λ (w : ℕ) (l : List ℕ). w ∷ l) B.word
    (ap (plus_words (subtract_words xs (replicate m 0) (borrow_out x 0 b))) B.hands ∙ back_rest m xs (borrow_out x 0 b) (omega arith) X.1)

plus_back : (xs : List ℕ) → length xs ≤ 8 → Fit xs → plus_words (subtract_words xs start_words false) true ≡ xs
plus_back [] h X = refl
plus_back (x ∷ xs) h X =
    let B = back x 1 false true X.0 (omega arith) refl in
    ap₂ (λ (w : ℕ) (l : List ℕ). w ∷ l) B.word
    (ap (plus_words (subtract_words xs (replicate 7 0) (borrow_out x 1 false))) B.hands ∙ back_rest 7 xs (borrow_out x 1 false) (omega arith) X.1)

pub plus_less : (xs : List ℕ) → length xs ≤ 8 → Fit xs → plus_words (less_one xs) true ≡ xs
plus_less xs h X = ap (λ (l : List ℕ). plus_words (subtract_words l start_words false) true) (take_all 8 xs h) ∙ plus_back xs h X
