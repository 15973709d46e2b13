-- WHAT THE CHECKER COMPUTES FOR EVERY NUMBER BELOW n, said of each of them: the entries of a table that is written out.
use mathlib.Core.Path.{◌≡◌, sym, ap, ◌∙◌}
use mathlib.Core.List.{List, [], ◌∷◌}
use Prim.Native.Nat.{ℕ, zero, suc, ◌+◌, ◌<◌}
use native.Mathlib.Nat.{add-suc, add-zero, le_of_suc-le-suc, not-suc-le-zero, suc-add, zero-add}
use lib.ListN.{get_or}

-- what f gives for n numbers from i on
module _ {A : Type 0} (d : A) (f : ℕ → A) where
  abbrev entries : ℕ → ℕ → List A
  entries i zero = []
  entries i (suc n) = f i ∷ entries (suc i) n

  from : (i n k : ℕ) → k < n → get_or (entries i n) k d ≡ f (i + k)
  from i zero k h = absurd (not-suc-le-zero h)
  from i (suc n) zero h = ap f (sym (add-zero i))
  from i (suc n) (suc k) h = from (suc i) n k (le_of_suc-le-suc h) ∙ ap f (suc-add i k ∙ sym (add-suc i k))

  pub entry : (n k : ℕ) → k < n → get_or (entries 0 n) k d ≡ f k
  entry n k h = from 0 n k h ∙ ap f (zero-add k)
