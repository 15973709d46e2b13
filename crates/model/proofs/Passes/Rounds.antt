-- TWO ROUNDS REACH ALL THAT THE EDGES REACH, back edges among them: what the edges R reach, then what back edges add to that, then what R reaches
-- once more. For a back edge adds the start of a body whose end was reached at once, and so was all that lies behind that end; what is new lies in
-- the body. If the end of another body is new, then the way there either came in by that body's start, or began in it: and then the two are one.
use mathlib.Core.Path.{◌≡◌, sym, subst}
use mathlib.Core.Logic.{◌⊎◌, inl, inr, ◌↔◌}
use Prim.Native.Nat.{ℕ}
use Rattle.model.specs.Live.{itself, onward, Reached}
use Rattle.model.proofs.Passes.Closure.{◌⊆◌, Add, reached_in, Set, Shut}

module _ (R B : ℕ → ℕ → Type 0) where
  abbrev pub Either : ℕ → ℕ → Type 0
  Either q r = R q r ⊎ B q r

  -- what is asked of the edges: `Body q r x` says that x lies in the body with the back edge from q to r; R leads into it by r only and out of it by
  -- q only, and two bodies that each have the other's state in them are one or share a side
  pub record Bodies : Type 1 where
    pub Body : ℕ → ℕ → ℕ → Type 0
    pub decided : (q r x : ℕ) → Body q r x ⊎ (Body q r x → ⊥)
    pub starts : (q r : ℕ) → B q r → Body q r r
    pub ends : (q r : ℕ) → B q r → Body q r q
    pub enter : (q r x y : ℕ) → B q r → R x y → (Body q r x → ⊥) → Body q r y → y ≡ r
    pub leave : (q r x y : ℕ) → B q r → R x y → Body q r x → (Body q r y → ⊥) → x ≡ q
    pub nested : (q r h s : ℕ) → B q r → B h s → Body q r s → Body h s q → (s ≡ r) ⊎ (h ≡ q)

  module _ (N : Bodies) (D : Set) where
    abbrev Once : Set
    Once = Reached R D

    abbrev Twice : Set
    Twice = Reached R (Add B Once)

    -- why x, in the body of the back edge from q to r, is reached: by r; or at once; or from the start s, in that body, of a body around x whose end h
    -- was reached at once
    abbrev Why : ℕ → ℕ → Set
    Why q r x = Twice r ⊎ Once x ⊎ ((h : ℕ) × (s : ℕ) × B h s × Once h × N.Body q r s × N.Body h s x)

    module _ (q r : ℕ) (back : B q r) where
      began : (x : ℕ) → Add B Once x → N.Body q r x → Why q r x
      began x (inl o) i = inr (inl o)
      began x (inr (h, o, b)) i = inr (inr (h, x, b, o, i, N.starts h x b))

      went : (x y : ℕ) → R x y → Why q r x → Why q r y
      went x y e (inl t) = inl t
      went x y e (inr (inl o)) = inr (inl (onward o e))
      went x y e (inr (inr (h, s, b, o, i, j))) =
          elim (N.decided h s y) [
            | inl k ↦ inr (inr (h, s, b, o, i, k))
            | inr k ↦ inr (inl (onward (subst Once (sym (N.leave h s x y b e j k)) o) e))
          ]

      why : {x : ℕ} → Twice x → N.Body q r x → Why q r x
      why (itself {q = x} d) i = began x d i
      why (onward {q = x} {r = y} c e) i = go (N.decided q r x) (why c)
        where
          go : N.Body q r x ⊎ (N.Body q r x → ⊥) → (N.Body q r x → Why q r x) → Why q r y
          go (inl k) f = went x y e (f k)
          go (inr k) f = inl (subst Twice (N.enter q r x y back e k i) (onward c e))

    shut : Shut B Twice
    shut q r t back =
        go (why q r back t (N.ends q r back))
      where
        go : Why q r q → Twice r
        go (inl u) = u
        go (inr (inl o)) = itself (inr (q, o, back))
        go (inr (inr (h, s, b, o, i, j))) =
            elim (N.nested q r h s back b i j) [
              | inl e ↦ itself (inr (h, o, subst (B h) e b))
              | inr e ↦ itself (inr (q, subst Once e o, back))
            ]

    -- THE THEOREM: from any set of states
    pub rounds_are : (x : ℕ) → Twice x ↔ Reached Either D x
    rounds_are x = (reached_in (λ y h. added y h) (λ y z u e. onward u (inl e)), reached_in (λ y d. itself (inl (itself d))) (λ y z u e. both y z u e))
      where
        C : Set
        C = Reached Either D

        once : Once ⊆ C
        once y = reached_in (λ z d. itself d) (λ z w u e. onward u (inl e))

        added : Add B Once ⊆ C
        added y (inl o) = once y o
        added y (inr (h, o, b)) = onward (once h o) (inr b)

        both : Shut Either Twice
        both y z u (inl e) = onward u e
        both y z u (inr b) = shut y z u b
