-- WORD i OF AN OPERATION ON EACH WORD APART, and the loop that makes such a row.
use Rattle.std.proofs.Common.{◌≡◌, ℕ, zero, suc, ◌+◌, ◌<◌, ◌≤◌, List, [], ◌∷◌, length, get_or, take, set, sym, refl, ◌∙◌, subst, le_of_suc-le-suc, not-suc-le-zero, arith}
use Rattle.model.specs.Models.Words.{each_word}
use Rattle.model.proofs.Words.Operations.{each_length}
use Rattle.mask.proofs.Laws.Filled.{Filled, filled_more, filled_take}
use Rattle.mask.proofs.Laws.Take.{take_each}
use Rattle.mask.specs.Rows.{Upto}

module _ (op : ℕ → ℕ → ℕ) where
  pub each-word : (xs ys : List ℕ) (i : ℕ) → i < length xs → i < length ys
      → get_or (each_word op xs ys) i 0 ≡ op (get_or xs i 0) (get_or ys i 0)
  each-word [] ys i h k = absurd (not-suc-le-zero h)
  each-word (x ∷ xs) [] i h k = absurd (not-suc-le-zero k)
  each-word (x ∷ xs) (y ∷ ys) zero h k = refl
  each-word (x ∷ xs) (y ∷ ys) (suc i) h k = each-word xs ys i (le_of_suc-le-suc h) (le_of_suc-le-suc k)

  -- the loop of and, or and xor: one word more, and all words
  module _ {n : ℕ} (xs ys : List ℕ) (hx : length xs ≡ n) (hy : length ys ≡ n)
      {row : List ℕ} {i : ℕ} (F : Filled n (each_word op xs ys) row i) where
    pub each_more : i < n → Filled n (each_word op xs ys) (set row i (op (get_or xs i 0) (get_or ys i 0))) (i + 1)
    each_more h = filled_more (op (get_or xs i 0) (get_or ys i 0)) F h (sym (each-word xs ys i (omega arith) (omega arith)))

    pub each_take : {m stop : ℕ} → n ≡ 8 → Upto m stop → stop ≤ i → take m row ≡ each_word op (take m xs) (take m ys)
    each_take {m} e u h =
        filled_take (subst (λ (k : ℕ). Filled k (each_word op xs ys) row i) e F) (each_length op xs ys (hx ∙ sym hy) ∙ hx ∙ e) u h ∙ take_each op m xs ys
