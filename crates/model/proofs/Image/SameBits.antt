-- Rows of as many words, each below 2^64, are equal if they hold the same set of states.
use mathlib.Core.Path.{◌≡◌, refl, sym, ap, ap₂, ◌∙◌, subst}
use mathlib.Core.Logic.{◌⊎◌, inl, inr}
use mathlib.Core.Bool.{Bool}
use mathlib.Core.List.{List, [], ◌∷◌}
use Prim.Native.Nat.{ℕ, zero, suc, ◌^◌, ◌≤◌, ◌<◌}
use native.Mathlib.Omega.{arith}
use lib.ListN.{length, take, drop}
use Rattle.model.specs.Bits.{bit}
use Rattle.model.specs.Models.Words.{bits_of, Fit, value}
use Rattle.model.proofs.Image.Rows.{wide}
use Rattle.model.proofs.Laws.Bool.{le_or_lt}
use Rattle.model.proofs.Words.Bits.{bit_ext}
use Rattle.model.proofs.Words.Holds.{Holds, val_lt, width_is}

value_inj : (xs ys : List ℕ) → length xs ≡ length ys → Fit xs → Fit ys → value xs ≡ value ys → xs ≡ ys
value_inj [] [] e h k v = refl
value_inj [] (y ∷ ys) e h k v = absurd (omega arith)
value_inj (x ∷ xs) [] e h k v = absurd (omega arith)
value_inj (x ∷ xs) (y ∷ ys) e h k v =
    ap₂ (λ (a : ℕ) (l : List ℕ). a ∷ l) (omega (arith, h.0, k.0)) (value_inj xs ys (omega arith) h.1 k.1 (omega (arith, h.0, k.0)))

pub rows_ext : (xs ys : List ℕ) → length xs ≡ length ys → Fit xs → Fit ys → ((x : ℕ) → bit (value xs) x ≡ bit (value ys) x) → xs ≡ ys
rows_ext xs ys e h k b = value_inj xs ys e h k (bit_ext (bits_of xs) (value xs) (value ys) (val_lt xs h) below (λ i l. b i))
  where
    below : value ys < 2 ^ bits_of xs
    below = subst (λ (n : ℕ). value ys < 2 ^ n) (width_is ys ∙ ap wide (sym e) ∙ sym (width_is xs)) (val_lt ys k)

pub holds_one : (m W : ℕ) (xs ys : List ℕ) (f g : ℕ → Bool) → Holds m W xs f → Holds m W ys g → ((x : ℕ) → x < m → f x ≡ g x) → xs ≡ ys
holds_one m W xs ys f g X Y same = rows_ext xs ys (X.near.len ∙ sym Y.near.len) X.near.fit Y.near.fit (λ x. go x (le_or_lt m x))
  where
    go : (x : ℕ) → (m ≤ x) ⊎ (x < m) → bit (value xs) x ≡ bit (value ys) x
    go x (inl h) = X.none x h ∙ sym (Y.none x h)
    go x (inr h) = X.near.bits x h ∙ same x h ∙ sym (Y.near.bits x h)

pub fit_take : (n : ℕ) (ws : List ℕ) → Fit ws → Fit (take n ws)
fit_take zero ws h = tt
fit_take (suc n) [] h = tt
fit_take (suc n) (w ∷ ws) h = (h.0, fit_take n ws h.1)

pub fit_drop : (n : ℕ) (ws : List ℕ) → Fit ws → Fit (drop n ws)
fit_drop zero ws h = h
fit_drop (suc n) [] h = tt
fit_drop (suc n) (w ∷ ws) h = fit_drop n ws h.1
