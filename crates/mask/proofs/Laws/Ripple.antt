-- WORD i OF A ROW THAT HANDS ON FROM WORD TO WORD, what goes into word i, and the loop that makes such a row.
use Rattle.std.proofs.Common.{◌≡◌, ℕ, zero, suc, ◌+◌, ◌*◌, ◌%◌, ◌^◌, ◌<◌, ◌≤◌, Bool, false, leb, List, [], ◌∷◌, length, get_or, take, set, sym, refl, ap, ◌∙◌, subst, le_of_suc-le-suc, not-suc-le-zero, add-one, arith}
use Rattle.model.specs.Bits.{digit}
use Rattle.model.specs.Models.Words.{ripple, shift_words}
use Rattle.mask.proofs.Laws.Filled.{Filled, filled_more, filled_take}
use Rattle.mask.proofs.Laws.Take.{take_ripple}
use Rattle.mask.specs.Rows.{shift_word, top_bit, Upto}

-- what goes into word i, from c into word 0
abbrev into_word : (out : ℕ → ℕ → Bool → Bool) → List ℕ → List ℕ → Bool → ℕ → Bool
into_word out xs ys c zero = c
into_word out [] ys c (suc i) = c
into_word out (x ∷ xs) [] c (suc i) = c
into_word out (x ∷ xs) (y ∷ ys) c (suc i) = into_word out xs ys (out x y c) i

into_next : (out : ℕ → ℕ → Bool → Bool) (xs ys : List ℕ) (c : Bool) (i : ℕ) → i < length xs → i < length ys
    → into_word out xs ys c (suc i) ≡ out (get_or xs i 0) (get_or ys i 0) (into_word out xs ys c i)
into_next out [] ys c i h k = absurd (not-suc-le-zero h)
into_next out (x ∷ xs) [] c i h k = absurd (not-suc-le-zero k)
into_next out (x ∷ xs) (y ∷ ys) c zero h k = refl
into_next out (x ∷ xs) (y ∷ ys) c (suc i) h k = into_next out xs ys (out x y c) i (le_of_suc-le-suc h) (le_of_suc-le-suc k)

module _ (word : ℕ → ℕ → Bool → ℕ) (out : ℕ → ℕ → Bool → Bool) where
  ripple_word : (xs ys : List ℕ) (c : Bool) (i : ℕ) → i < length xs → i < length ys
      → get_or (ripple word out xs ys c) i 0 ≡ word (get_or xs i 0) (get_or ys i 0) (into_word out xs ys c i)
  ripple_word [] ys c i h k = absurd (not-suc-le-zero h)
  ripple_word (x ∷ xs) [] c i h k = absurd (not-suc-le-zero k)
  ripple_word (x ∷ xs) (y ∷ ys) c zero h k = refl
  ripple_word (x ∷ xs) (y ∷ ys) c (suc i) h k = ripple_word xs ys (out x y c) i (le_of_suc-le-suc h) (le_of_suc-le-suc k)

  ripple_length : (xs ys : List ℕ) (c : Bool) → length xs ≡ length ys → length (ripple word out xs ys c) ≡ length xs
  ripple_length [] ys c e = refl
  ripple_length (x ∷ xs) [] c e = absurd (omega arith)
  ripple_length (x ∷ xs) (y ∷ ys) c e = ap suc (ripple_length xs ys (out x y c) (omega arith))

  -- the loop of shift, add and subtract: the first i words are made, and d is what goes into the next, as a number
  pub record Rippled (n : ℕ) (xs ys row : List ℕ) (d i : ℕ) : Type 0 where
    pub words : Filled n (ripple word out xs ys false) row i
    pub handed : d ≡ digit (into_word out xs ys false i)

  module _ {n : ℕ} {xs ys row : List ℕ} {d i : ℕ} (R : Rippled n xs ys row d i) (hx : length xs ≡ n) (hy : length ys ≡ n) where
    -- one word more: t is stored and e is handed on, whatever truth b the number d stands for
    pub rippled_more : (t e : ℕ) → i < n
        → ((b : Bool) → d ≡ digit b → (t ≡ word (get_or xs i 0) (get_or ys i 0) b) × (e ≡ digit (out (get_or xs i 0) (get_or ys i 0) b)))
        → Rippled n xs ys (set row i t) e (i + 1)
    rippled_more t e h step =
        let kx : i < length xs = omega arith in
        let ky : i < length ys = omega arith in
        let s = step (into_word out xs ys false i) R.handed in
        record {
          words = filled_more t R.words h (s.0 ∙ sym (ripple_word xs ys false i kx ky));
          handed = s.1 ∙ ap digit (sym (ap (into_word out xs ys false) (add-one i) ∙ into_next out xs ys false i kx ky));
        }

    pub rippled_take : {m stop : ℕ} → n ≡ 8 → Upto m stop → stop ≤ i → take m row ≡ ripple word out (take m xs) (take m ys) false
    rippled_take {m} e u h =
        filled_take (subst (λ (k : ℕ). Filled k (ripple word out xs ys false) row i) e R.words) (ripple_length xs ys false (hx ∙ sym hy) ∙ hx ∙ e) u h
        ∙ take_ripple word out m xs ys false

-- the shift is such a row, of a row with itself
pub shift_ripple : (xs : List ℕ) (c : Bool) → shift_words xs c ≡ ripple shift_word top_bit xs xs c
shift_ripple [] c = refl
shift_ripple (x ∷ xs) c = ap (λ (zs : List ℕ). (x * 2 % 2 ^ 64 + digit c) ∷ zs) (shift_ripple xs (leb (2 ^ 63) x))
