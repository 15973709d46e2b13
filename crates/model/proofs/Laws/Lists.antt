-- Lists: what stands in one, what holds for all of it, and tests of some element.
use mathlib.Core.Path.{◌≡◌, refl, sym, ap, ◌∙◌, subst}
use mathlib.Core.Logic.{◌⊎◌, inl, inr}
use mathlib.Core.Bool.{Bool, ◌||◌, or_assoc}
use mathlib.Core.List.{List, [], ◌∷◌, ◌++◌}
use Prim.Native.Nat.{ℕ}
use lib.Dec.{T, eqb, eqb→eq, eqb_refl}
use Rattle.model.specs.Lists.{◌∈◌, All, any, within}
use Rattle.model.proofs.Laws.Bool.{or_left, or_right, or_split}

-- the elements of a list, as a property
abbrev pub In : {A : Type 0} → List A → A → Type 0
In xs x = x ∈ xs

pub later : {A : Type 0} (xs ys : List A) (u : A) → In ys u → In (xs ++ ys) u
later [] ys u h = h
later (x ∷ xs) ys u h = inr (later xs ys u h)

pub sooner : {A : Type 0} (xs ys : List A) (u : A) → In xs u → In (xs ++ ys) u
sooner [] ys u h = absurd h
sooner (x ∷ xs) ys u (inl e) = inl e
sooner (x ∷ xs) ys u (inr h) = inr (sooner xs ys u h)

pub in_split : {A : Type 0} (xs ys : List A) (u : A) → In (xs ++ ys) u → In xs u ⊎ In ys u
in_split [] ys u h = inr h
in_split (x ∷ xs) ys u (inl e) = inl (inl e)
in_split (x ∷ xs) ys u (inr h) = elim (in_split xs ys u h) [ inl i ↦ inl (inr i) | inr i ↦ inr i ]

-- ---- all
module _ {A : Type 0} (Q : A → Type 0) where
  pub all_app : (xs ys : List A) → All Q xs → All Q ys → All Q (xs ++ ys)
  all_app [] ys hx hy = hy
  all_app (x ∷ xs) ys hx hy = (hx.0, all_app xs ys hx.1 hy)

  pub all_left : (xs ys : List A) → All Q (xs ++ ys) → All Q xs
  all_left [] ys h = tt
  all_left (x ∷ xs) ys h = (h.0, all_left xs ys h.1)

  pub all_right : (xs ys : List A) → All Q (xs ++ ys) → All Q ys
  all_right [] ys h = h
  all_right (x ∷ xs) ys h = all_right xs ys h.1

  pub all_in : (xs : List A) → All Q xs → (x : A) → In xs x → Q x
  all_in [] h x i = absurd i
  all_in (y ∷ xs) h x (inl p) = subst Q (sym p) h.0
  all_in (y ∷ xs) h x (inr i) = all_in xs h.1 x i

  pub all_of : (xs : List A) → ((x : A) → In xs x → Q x) → All Q xs
  all_of [] h = tt
  all_of (x ∷ xs) h = (h x (inl refl), all_of xs (λ y i. h y (inr i)))

pub all_map : {A : Type 0} (Q R : A → Type 0) → ((x : A) → Q x → R x) → (xs : List A) → All Q xs → All R xs
all_map Q R f [] h = tt
all_map Q R f (x ∷ xs) h = (f x h.0, all_map Q R f xs h.1)

pub in_all : {A : Type 0} (xs : List A) → All (In xs) xs
in_all xs = all_of (In xs) xs (λ x i. i)

-- ---- some
module _ {A : Type 0} (p : A → Bool) where
  pub any_in : (xs : List A) (x : A) → In xs x → T (p x) → T (any p xs)
  any_in [] x i h = absurd i
  any_in (y ∷ xs) x (inl e) h = or_left (p y) (any p xs) (subst (λ (z : A). T (p z)) e h)
  any_in (y ∷ xs) x (inr i) h = or_right (p y) (any p xs) (any_in xs x i h)

  pub any_out : (xs : List A) → T (any p xs) → (x : A) × In xs x × T (p x)
  any_out [] h = absurd h
  any_out (y ∷ xs) h = go (or_split (p y) (any p xs) h) (λ k. any_out xs k)
    where
      go : T (p y) ⊎ T (any p xs) → (T (any p xs) → (x : A) × In xs x × T (p x)) → (x : A) × In (y ∷ xs) x × T (p x)
      go (inl k) ih = (y, inl refl, k)
      go (inr k) ih = let r = ih k in (r.0, inr r.1, r.2)

  pub any_app : (xs ys : List A) → any p (xs ++ ys) ≡ (any p xs || any p ys)
  any_app [] ys = refl
  any_app (x ∷ xs) ys = ap (λ (b : Bool). p x || b) (any_app xs ys) ∙ sym (or_assoc (p x) (any p xs) (any p ys))

-- a number is within a list exactly if it stands in it
pub within_in : (ns : List ℕ) (n : ℕ) → n ∈ ns → T (within n ns)
within_in ns n i = any_in (eqb n) ns n i (eqb_refl n)

pub in_within : (ns : List ℕ) (n : ℕ) → T (within n ns) → n ∈ ns
in_within ns n h = let r = any_out (eqb n) ns h in subst (In ns) (sym (eqb→eq n r.0 r.2)) r.1
