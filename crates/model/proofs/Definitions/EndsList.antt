-- A text has exactly one list of ends: a rising list is settled by its elements, and the places that pass a test are such a list.
use mathlib.Core.Path.{◌≡◌, refl, sym, ap₂, subst}
use mathlib.Core.Logic.{◌⊎◌, inl, inr, ◌↔◌}
use mathlib.Core.Bool.{Bool, true, false, cond}
use mathlib.Core.List.{List, [], ◌∷◌}
use Prim.Native.Nat.{ℕ, zero, suc, ◌+◌, ◌≤◌, ◌<◌}
use native.Mathlib.Nat.{eq-or-lt_of_le}
use native.Mathlib.Omega.{arith}
use lib.Dec.{T}
use lib.ListN.{length}
use Rattle.model.specs.Lists.{◌∈◌}
use Rattle.model.specs.Tree.{Tree}
use Rattle.model.specs.Ends.{End, EndsAre, Rising}
use Rattle.model.proofs.Laws.Lists.{all_in, all_of}

-- ---- a rising list is settled by its elements
tail_in : (p q x : ℕ) (qs : List ℕ) → p ≡ q → p < x → (x ≡ q) ⊎ (x ∈ qs) → x ∈ qs
tail_in p q x qs e l (inl k) = absurd (omega arith)
tail_in p q x qs e l (inr h) = h

pub rising_one : (ps qs : List ℕ) → Rising ps → Rising qs → ((p : ℕ) → p ∈ ps → p ∈ qs) → ((p : ℕ) → p ∈ qs → p ∈ ps) → ps ≡ qs
rising_one [] [] R S f g = refl
rising_one [] (q ∷ qs) R S f g = absurd (g q (inl refl))
rising_one (p ∷ ps) [] R S f g = absurd (f p (inl refl))
rising_one (p ∷ ps) (q ∷ qs) R S f g =
    ap₂ (λ (x : ℕ) (xs : List ℕ). x ∷ xs) same
    (rising_one ps qs R.1 S.1 (λ x h. tail_in p q x qs same (above x h) (f x (inr h))) (λ x h. tail_in q p x ps (sym same) (beyond x h) (g x (inr h))))
  where
    above : (x : ℕ) → x ∈ ps → p < x
    above = all_in (λ x. p < x) ps R.0

    beyond : (x : ℕ) → x ∈ qs → q < x
    beyond = all_in (λ x. q < x) qs S.0

    go : (p ≡ q) ⊎ (p ∈ qs) → (q ≡ p) ⊎ (q ∈ ps) → p ≡ q
    go (inl e) k = e
    go (inr h) (inl e) = sym e
    go (inr h) (inr k) = absurd (omega (arith, beyond p h, above q k))

    same : p ≡ q
    same = go (f p (inl refl)) (g q (inl refl))

-- TWO LISTS OF ENDS OF ONE TEXT ARE EQUAL
pub ends_one : (t : Tree) (text ps qs : List ℕ) → EndsAre t text ps → EndsAre t text qs → ps ≡ qs
ends_one t text ps qs P Q =
    rising_one ps qs P.rising Q.rising (λ p h. Q.complete p (P.ends p h)) (λ p h. P.complete p (Q.ends p h))

-- ---- the places from p to p + n that pass a test
abbrev pub places_from : (ℕ → Bool) → ℕ → ℕ → List ℕ
places_from f p zero = cond (f p) (p ∷ []) []
places_from f p (suc n) = cond (f p) (p ∷ places_from f (suc p) n) (places_from f (suc p) n)

module _ (f : ℕ → Bool) where
  places_in : (p n x : ℕ) → x ∈ places_from f p n → (p ≤ x) × (x ≤ p + n) × T (f x)
  places_in p zero x h = go (f p) refl h
    where
      go : (b : Bool) → f p ≡ b → x ∈ cond b (p ∷ []) [] → (p ≤ x) × (x ≤ p + 0) × T (f x)
      go true e (inl k) = (omega arith, omega arith, subst (λ (y : ℕ). T (f y)) (sym k) (subst T (sym e) tt))
      go true e (inr k) = absurd k
      go false e k = absurd k
  places_in p (suc n) x h = go (f p) refl h (λ k. places_in (suc p) n x k)
    where
      go : (b : Bool) → f p ≡ b → x ∈ cond b (p ∷ places_from f (suc p) n) (places_from f (suc p) n)
          → (x ∈ places_from f (suc p) n → (suc p ≤ x) × (x ≤ suc p + n) × T (f x)) → (p ≤ x) × (x ≤ p + suc n) × T (f x)
      go true e (inl k) ih = (omega arith, omega arith, subst (λ (y : ℕ). T (f y)) (sym k) (subst T (sym e) tt))
      go true e (inr k) ih = let r = ih k in (omega (arith, r.0), omega (arith, r.1), r.2)
      go false e k ih = let r = ih k in (omega (arith, r.0), omega (arith, r.1), r.2)

  in_places : (p n x : ℕ) → p ≤ x → x ≤ p + n → T (f x) → x ∈ places_from f p n
  in_places p zero x h l t = let e : x ≡ p = omega arith in go (f p) refl e
    where
      go : (b : Bool) → f p ≡ b → x ≡ p → x ∈ cond b (p ∷ []) []
      go true e k = inl k
      go false e k = absurd (subst T e (subst (λ (y : ℕ). T (f y)) k t))
  in_places p (suc n) x h l t = go (f p) refl (eq-or-lt_of_le h) (λ k. in_places (suc p) n x k (omega arith) t)
    where
      go : (b : Bool) → f p ≡ b → (p ≡ x) ⊎ (p < x) → (suc p ≤ x → x ∈ places_from f (suc p) n) → x ∈ cond b (p ∷ places_from f (suc p) n) (places_from f (suc p) n)
      go true e (inl k) ih = inl (sym k)
      go true e (inr k) ih = inr (ih k)
      go false e (inl k) ih = absurd (subst T e (subst (λ (y : ℕ). T (f y)) (sym k) t))
      go false e (inr k) ih = ih k

  places_rise : (p n : ℕ) → Rising (places_from f p n)
  places_rise p zero = go (f p)
    where
      go : (b : Bool) → Rising (cond b (p ∷ []) [])
      go true = (tt, tt)
      go false = tt
  places_rise p (suc n) = go (f p) (places_rise (suc p) n)
    where
      go : (b : Bool) → Rising (places_from f (suc p) n) → Rising (cond b (p ∷ places_from f (suc p) n) (places_from f (suc p) n))
      go true R = (all_of (λ x. p < x) (places_from f (suc p) n) (λ x h. (places_in (suc p) n x h).0), R)
      go false R = R

-- THE PLACES THAT PASS A TEST FOR ENDS ARE THE LIST OF ENDS
pub places_are : (t : Tree) (text : List ℕ) (f : ℕ → Bool) → ((p : ℕ) → p ≤ length text → T (f p) ↔ End t text p) → ((p : ℕ) → End t text p → p ≤ length text)
    → EndsAre t text (places_from f 0 (length text))
places_are t text f is within = record {
  rising = places_rise f 0 (length text);
  ends = λ p h. let r = places_in f 0 (length text) p h in (is p (omega (arith, r.1))).0 r.2;
  complete = λ p e. let l = within p e in in_places f 0 (length text) p (omega arith) (omega arith) ((is p l).1 e);
}
