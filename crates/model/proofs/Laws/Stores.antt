-- Runs of stores (`sets`): a store goes to the list's head or into its tail, so one run after another is one run, and a run from the first place on is
-- the part of it that fits.
use mathlib.Core.Path.{◌≡◌, refl, sym, ap, ◌∙◌}
use mathlib.Core.List.{List, [], ◌∷◌, ◌++◌}
use Prim.Native.Nat.{ℕ, suc, ◌+◌}
use native.Mathlib.Nat.{add-zero}
use native.Mathlib.Omega.{arith}
use lib.ListN.{length, set}
use lib.Seq.{sets, take-nil}
use Rattle.model.specs.Answers.{done}

module _ {A : Type 0} where
  -- ---- one run and the next
  pub sets_append : (l : List A) (i : ℕ) (us vs : List A) → sets l i (us ++ vs) ≡ sets (sets l i us) (i + length us) vs
  sets_append l i [] vs = ap (λ (k : ℕ). sets l k vs) (sym (add-zero i))
  sets_append l i (u ∷ us) vs =
      let e : suc i + length us ≡ i + suc (length us) = omega arith in
      sets_append (set l i u) (suc i) us vs ∙ ap (λ (k : ℕ). sets (sets (set l i u) (suc i) us) k vs) e

  -- ---- by the list's head and tail
  pub sets_nil : (i : ℕ) (vs : List A) → sets [] i vs ≡ []
  sets_nil i [] = refl
  sets_nil i (v ∷ vs) = sets_nil (suc i) vs

  pub sets_cons : (x : A) (xs : List A) (i : ℕ) (vs : List A) → sets (x ∷ xs) (suc i) vs ≡ x ∷ sets xs i vs
  sets_cons x xs i [] = refl
  sets_cons x xs i (v ∷ vs) = sets_cons x (set xs i v) (suc i) vs

-- ---- WHAT IS WRITTEN: a store past the end changes nothing, so all stores are those that fit
pub sets_fit : (l ps : List ℕ) → sets l 0 ps ≡ (done ps l).lent
sets_fit l [] = sym (ap (λ (k : List ℕ). k ++ l) (take-nil (length l)))
sets_fit [] (p ∷ ps) = sets_nil 1 ps
sets_fit (x ∷ l) (p ∷ ps) = sets_cons p l 0 ps ∙ ap (λ (k : List ℕ). p ∷ k) (sets_fit l ps)
