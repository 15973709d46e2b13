-- What stands in, and what is tested over, lists made by `each` and `map`.
use mathlib.Core.Path.{◌≡◌, refl, sym, ap, ap₂, ◌∙◌, subst}
use mathlib.Core.Logic.{◌⊎◌, inl, inr}
use mathlib.Core.Bool.{Bool, false, ◌||◌}
use mathlib.Core.List.{List, [], ◌∷◌, ◌++◌, map, append_assoc}
use Rattle.model.specs.Lists.{any, each}
use Rattle.model.proofs.Laws.Lists.{any_app, In, in_split, later, sooner}

module _ {A B : Type 0} (f : A → B) where
  pub in_map : (xs : List A) (x : A) → In xs x → In (map f xs) (f x)
  in_map [] x h = absurd h
  in_map (y ∷ xs) x (inl e) = inl (ap f e)
  in_map (y ∷ xs) x (inr h) = inr (in_map xs x h)

  pub map_in : (xs : List A) (u : B) → In (map f xs) u → (x : A) × In xs x × (u ≡ f x)
  map_in [] u h = absurd h
  map_in (y ∷ xs) u (inl e) = (y, inl refl, e)
  map_in (y ∷ xs) u (inr h) = let r = map_in xs u h in (r.0, inr r.1, r.2)

  pub any_map_none : (p : B → Bool) → ((x : A) → p (f x) ≡ false) → (xs : List A) → any p (map f xs) ≡ false
  any_map_none p h [] = refl
  any_map_none p h (x ∷ xs) = ap₂ ◌||◌ (h x) (any_map_none p h xs)

module _ {A B : Type 0} (f : A → List B) where
  pub in_each : (xs : List A) (x : A) (u : B) → In xs x → In (f x) u → In (each f xs) u
  in_each [] x u h k = absurd h
  in_each (y ∷ xs) x u (inl e) k = sooner (f y) (each f xs) u (subst (λ (z : A). In (f z) u) e k)
  in_each (y ∷ xs) x u (inr h) k = later (f y) (each f xs) u (in_each xs x u h k)

  pub each_in : (xs : List A) (u : B) → In (each f xs) u → (x : A) × In xs x × In (f x) u
  each_in [] u h = absurd h
  each_in (y ∷ xs) u h = go (in_split (f y) (each f xs) u h) (λ k. each_in xs u k)
    where
      Found : List A → Type 0
      Found zs = (x : A) × In zs x × In (f x) u

      go : In (f y) u ⊎ In (each f xs) u → (In (each f xs) u → Found xs) → Found (y ∷ xs)
      go (inl k) ih = (y, inl refl, k)
      go (inr k) ih = let r = ih k in (r.0, inr r.1, r.2)

  pub each_app : (xs ys : List A) → each f (xs ++ ys) ≡ each f xs ++ each f ys
  each_app [] ys = refl
  each_app (x ∷ xs) ys = ap (λ (l : List B). f x ++ l) (each_app xs ys) ∙ sym (append_assoc (f x) (each f xs) (each f ys))

  pub any_each : (p : B → Bool) (xs : List A) → any p (each f xs) ≡ any (λ x. any p (f x)) xs
  any_each p [] = refl
  any_each p (x ∷ xs) = any_app p (f x) (each f xs) ∙ ap (λ (b : Bool). any p (f x) || b) (any_each p xs)

-- two tests that agree on every element
pub any_same : {A : Type 0} (p q : A → Bool) → ((x : A) → p x ≡ q x) → (xs : List A) → any p xs ≡ any q xs
any_same p q h [] = refl
any_same p q h (x ∷ xs) = ap₂ ◌||◌ (h x) (any_same p q h xs)
