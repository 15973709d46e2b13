-- THE TEST `same_words` is true exactly if the two rows are equal.
use Rattle.std.proofs.Common.{◌≡◌, ℕ, true, false, T, ◌↔◌, List, subst}
use Rattle.model.specs.Models.Verdict.{same_words}
use Rattle.model.proofs.Image.Verdict.{same-words, words_same}
use Rattle.model.proofs.Laws.Bool.{is_not, is_true}

module _ (xs ys : List ℕ) where
  pub same_exactly : T (same_words xs ys) ↔ (xs ≡ ys)
  same_exactly = (same-words xs ys, λ e. subst (λ (zs : List ℕ). T (same_words xs zs)) e (words_same xs))

  pub same_true : xs ≡ ys → same_words xs ys ≡ true
  same_true e = is_true (same_words xs ys) (same_exactly.1 e)

  pub same_false : (xs ≡ ys → ⊥) → same_words xs ys ≡ false
  same_false n = is_not (same_words xs ys) (λ t. n (same-words xs ys t))
