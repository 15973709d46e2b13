-- THE PASSES REACH ALL THAT THE EDGES REACH, over any states with depths. The rising half is shut under propagate and gather edges, for a pass adds at
-- its own depth only; so is the falling half under propagate and scatter edges. A gather edge whose source came alive in the falling half has a
-- propagate edge beside it, over a union that can be empty, and so brings nothing new.
use mathlib.Core.Path.{◌≡◌, subst}
use mathlib.Core.Logic.{◌⊎◌, inl, inr, ◌↔◌}
use Prim.Native.Nat.{ℕ, zero, suc, ◌+◌, ◌≤◌, ◌<◌}
use native.Mathlib.Nat.{eq-or-lt_of_le}
use native.Mathlib.Omega.{arith}
use Rattle.model.specs.Live.{itself, onward, Reached}

-- ---- sets of states
abbrev pub Set : Type 1
Set = ℕ → Type 0

infix 4 ◌⊆◌
abbrev pub ◌⊆◌ : Set → Set → Type 0
D ⊆ F = (q : ℕ) → D q → F q

-- what a set reaches by at most one edge
abbrev pub Add : (ℕ → ℕ → Type 0) → Set → Set
Add R D r = D r ⊎ ((q : ℕ) × D q × R q r)

-- no edge leads out of the set
abbrev pub Shut : (ℕ → ℕ → Type 0) → Set → Type 0
Shut R F = (q r : ℕ) → F q → R q r → F r

pub reached_in : {R : ℕ → ℕ → Type 0} {D F : Set} → D ⊆ F → Shut R F → {q : ℕ} → Reached R D q → F q
reached_in h s (itself d) = h _ d
reached_in h s (onward {q = q} {r = r} c e) = s q r (reached_in h s c) e

-- what is reached grows with the edges and with the set
pub reached_map : {R S : ℕ → ℕ → Type 0} {D E : Set} → ((q r : ℕ) → R q r → S q r) → D ⊆ E → {q : ℕ} → Reached R D q → Reached S E q
reached_map f g (itself h) = itself (g _ h)
reached_map f g (onward {q} {r} c e) = onward (reached_map f g c) (f q r e)

pub reached_more : {R : ℕ → ℕ → Type 0} {D E : Set} → D ⊆ E → {q : ℕ} → Reached R D q → Reached R E q
reached_more g = reached_map (λ q r e. e) g

add_in : {R : ℕ → ℕ → Type 0} {D F : Set} → D ⊆ F → Shut R F → Add R D ⊆ F
add_in h s q (inl d) = h q d
add_in h s q (inr d) = s d.0 q (h d.0 d.1) d.2

-- ---- propagate, gather and scatter edges of each depth, where gather and scatter edges of depth k join depths k and k + 1
module _ (P G S : ℕ → ℕ → ℕ → Type 0) where
  abbrev pub rise : ℕ → Set → Set
  rise k D = Add (G k) (Reached (P (suc k)) D)

  abbrev pub fall : ℕ → Set → Set
  fall k D = Reached (P (suc k)) (Add (S k) D)

  abbrev pub up : ℕ → Set → Set
  up zero D = Reached (P 0) D
  up (suc k) D = up k (rise k D)

  abbrev pub down : ℕ → ℕ → Set → Set
  down zero k D = D
  down (suc n) k D = down n (suc k) (fall k D)

  -- propagate k, gather k-1 for k from d to 1; propagate 0; scatter k-1, propagate k for k from 1 to d
  abbrev pub passes : ℕ → Set → Set
  passes d D = down d 0 (up d D)

  abbrev pub AnyEdge : ℕ → ℕ → Type 0
  AnyEdge q r = ((k : ℕ) × P k q r) ⊎ ((k : ℕ) × G k q r) ⊎ ((k : ℕ) × S k q r)

  -- what is asked of the edges of a tree of depth d
  pub record Nested (d : ℕ) : Type 1 where
    pub level : ℕ → ℕ
    pub propagate_level : (k q r : ℕ) → P k q r → (level q ≡ k) × (level r ≡ k)
    pub gather_level : (k q r : ℕ) → G k q r → (level q ≡ suc k) × (level r ≡ k)
    pub scatter_level : (k q r : ℕ) → S k q r → (level q ≡ k) × (level r ≡ suc k)
    pub propagate_low : (k q r : ℕ) → P k q r → k ≤ d
    pub gather_low : (k q r : ℕ) → G k q r → k < d
    pub scatter_low : (k q r : ℕ) → S k q r → k < d
    -- `Free a q`: the sequence that starts in a leads to q without a letter
    pub Free : ℕ → ℕ → Type 0
    pub free_on : (k a q r : ℕ) → Free a q → P k q r → Free a r
    pub free_start : (k q r : ℕ) → S k q r → Free r r
    -- from the start w of a union, past an alternative from a to e that needs no letter, to the union's end f
    pub bypass : (j k w a e f : ℕ) → G k e f → Free a e → S j w a → P k w f

  -- ---- nothing but what a shut set has
  module _ (F : Set) (s_p : (k : ℕ) → Shut (P k) F) where
    up_in : ((k : ℕ) → Shut (G k) F) → (n : ℕ) (D : Set) → D ⊆ F → up n D ⊆ F
    up_in sG zero D h q u = reached_in h (s_p 0) u
    up_in sG (suc n) D h q u = up_in sG n (rise n D) (add_in (λ x. reached_in h (s_p (suc n))) (sG n)) q u

    down_in : ((k : ℕ) → Shut (S k) F) → (n k : ℕ) (D : Set) → D ⊆ F → down n k D ⊆ F
    down_in sS zero k D h q u = h q u
    down_in sS (suc n) k D h q u = down_in sS n (suc k) (fall k D) (λ x. reached_in (add_in h (sS k)) (s_p (suc k))) q u

  -- ---- at least what was there
  up_base : (n : ℕ) (D : Set) → D ⊆ up n D
  up_base zero D q h = itself h
  up_base (suc n) D q h = up_base n (rise n D) q (inl (itself h))

  down_base : (n k : ℕ) (D : Set) → D ⊆ down n k D
  down_base zero k D q h = h
  down_base (suc n) k D q h = down_base n (suc k) (fall k D) q (itself (inl h))

  module _ {d : ℕ} (N : Nested d) where
    -- ---- a pass adds at its own depth only
    reached_back : (k : ℕ) (D : Set) {q : ℕ} → (N.level q ≡ k → ⊥) → Reached (P k) D q → D q
    reached_back k D other (itself h) = h
    reached_back k D other (onward c e) = absurd (other (N.propagate_level k _ _ e).1)

    gathered_back : (k : ℕ) (D : Set) {q : ℕ} → (N.level q ≡ k → ⊥) → Add (G k) D q → D q
    gathered_back k D other (inl h) = h
    gathered_back k D other (inr h) = absurd (other (N.gather_level k _ _ h.2).1)

    scattered_back : (k : ℕ) (D : Set) {q : ℕ} → (N.level q ≡ suc k → ⊥) → Add (S k) D q → D q
    scattered_back k D other (inl h) = h
    scattered_back k D other (inr h) = absurd (other (N.scatter_level k _ _ h.2).1)

    up_back : (n : ℕ) (D : Set) (q : ℕ) → n < N.level q → up n D q → D q
    up_back zero D q h u = reached_back 0 D (λ e. omega arith) u
    up_back (suc n) D q h u =
        reached_back (suc n) D (λ e. omega arith) (gathered_back n (Reached (P (suc n)) D) (λ e. omega arith) (up_back n (rise n D) q (omega arith) u))

    fall_back : (k : ℕ) (D : Set) (q : ℕ) → N.level q ≤ k → fall k D q → D q
    fall_back k D q h u = scattered_back k D (λ e. omega arith) (reached_back (suc k) (Add (S k) D) (λ e. omega arith) u)

    -- ---- the rising half is shut under propagate and gather
    -- a state of depth n + 1 in it was live after the propagate pass of that depth
    up_at : (n : ℕ) (D : Set) (q : ℕ) → N.level q ≡ suc n → up n (rise n D) q → Reached (P (suc n)) D q
    up_at n D q e u = gathered_back n (Reached (P (suc n)) D) (λ x. omega arith) (up_back n (rise n D) q (omega arith) u)

    up_P : (n k : ℕ) → k ≤ n → (D : Set) → Shut (P k) (up n D)
    up_P zero zero h D q r u e = onward u e
    up_P zero (suc k) h D q r u e = absurd (omega arith)
    up_P (suc n) k h D q r u e =
        elim (eq-or-lt_of_le h) [
          | inl x ↦ up_base n (rise n D) r (inl (onward (up_at n D q (omega (arith, N.propagate_level k q r e)) u) (subst (λ (y : ℕ). P y q r) x e)))
          | inr l ↦ up_P n k (omega arith) (rise n D) q r u e
        ]

    up_G : (n k : ℕ) → k < n → (D : Set) → Shut (G k) (up n D)
    up_G zero k h D q r u e = absurd (omega arith)
    up_G (suc n) k h D q r u e =
        elim (eq-or-lt_of_le h) [
          | inl x ↦ (let y : k ≡ n = omega arith in up_base n (rise n D) r (inr (q, up_at n D q (omega (arith, N.gather_level k q r e)) u, subst (λ (z : ℕ). G z q r) y e)))
          | inr l ↦ up_G n k (omega arith) (rise n D) q r u e
        ]

    -- ---- the falling half is shut under propagate and scatter, from a set that is so down to depth k
    fall_P : (k : ℕ) (D : Set) → ((j : ℕ) → j ≤ k → Shut (P j) D) → (j : ℕ) → j ≤ suc k → Shut (P j) (fall k D)
    fall_P k D hP j h q r u e =
        elim (eq-or-lt_of_le h) [
          | inl x ↦ onward u (subst (λ (y : ℕ). P y q r) x e)
          | inr l ↦ itself (inl (hP j (omega arith) q r (fall_back k D q (omega (arith, N.propagate_level j q r e)) u) e))
        ]

    fall_S : (k : ℕ) (D : Set) → ((j : ℕ) → j < k → Shut (S j) D) → (j : ℕ) → j < suc k → Shut (S j) (fall k D)
    fall_S k D hS j h q r u e =
        let back = fall_back k D q (omega (arith, N.scatter_level j q r e)) u in
        elim (eq-or-lt_of_le h) [
          | inl x ↦ (let y : j ≡ k = omega arith in itself (inr (q, back, subst (λ (z : ℕ). S z q r) y e)))
          | inr l ↦ itself (inl (hS j (omega arith) q r back e))
        ]

    down_P : (n k : ℕ) (D : Set) → ((j : ℕ) → j ≤ k → Shut (P j) D) → (j : ℕ) → j ≤ k + n → Shut (P j) (down n k D)
    down_P zero k D hP j h = hP j (omega arith)
    down_P (suc n) k D hP j h = down_P n (suc k) (fall k D) (fall_P k D hP) j (omega arith)

    down_S : (n k : ℕ) (D : Set) → ((j : ℕ) → j < k → Shut (S j) D) → (j : ℕ) → j < k + n → Shut (S j) (down n k D)
    down_S zero k D hS j h = hS j (omega arith)
    down_S (suc n) k D hS j h = down_S n (suc k) (fall k D) (fall_S k D hS) j (omega arith)

    -- ---- all passes
    module _ (D : Set) where
      abbrev U : Set
      U = up d D

      abbrev F : Set
      F = passes d D

      F-P : (k : ℕ) → Shut (P k) F
      F-P k q r u e = down_P d 0 U (λ j h. up_P d j (omega arith) D) k (omega (arith, N.propagate_low k q r e)) q r u e

      F-S : (k : ℕ) → Shut (S k) F
      F-S k q r u e = down_S d 0 U (λ j h. absurd (omega arith)) k (omega (arith, N.scatter_low k q r e)) q r u e

      -- why q is live: by the rising half, or from the live start w of a union whose alternative from a leads to q without a letter
      abbrev Why : Set
      Why q = U q ⊎ ((w : ℕ) × (a : ℕ) × (k : ℕ) × F w × S k w a × N.Free a q)

      why_P : (k : ℕ) → Shut (P k) (λ q. F q × Why q)
      why_P k q r u e = (
        F-P k q r u.0 e,
        elim u.1 [
          | inl x ↦ inl (up_P d k (N.propagate_low k q r e) D q r x e)
          | inr x ↦ inr (x.0, x.1, x.2, x.3, x.4, N.free_on k x.1 q r x.5 e)
        ],
      )

      why_S : (k : ℕ) → Shut (S k) (λ q. F q × Why q)
      why_S k q r u e = (F-S k q r u.0 e, inr (q, r, k, u.0, e, N.free_start k q r e))

      why : F ⊆ (λ q. F q × Why q)
      why = down_in (λ q. F q × Why q) why_P why_S d 0 U (λ q u. (down_base d 0 U q u, inl u))

      F-G : (k : ℕ) → Shut (G k) F
      F-G k q r u e =
          elim (why q u).1 [
            | inl x ↦ down_base d 0 U r (up_G d k (N.gather_low k q r e) D q r x e)
            | inr x ↦ F-P k x.0 r x.3 (N.bypass x.2 k x.0 x.1 q r e x.5 x.4)
          ]

      -- THE THEOREM: from any set of states the passes give exactly what the edges reach
      pub passes_are : (q : ℕ) → passes d D q ↔ Reached AnyEdge D q
      passes_are q = (there q, reached_in (λ x h. down_base d 0 U x (up_base d D x h)) shut)
        where
          C : Set
          C = Reached AnyEdge D

          c_p : (k : ℕ) → Shut (P k) C
          c_p k x y u e = onward u (inl (k, e))

          there : passes d D ⊆ C
          there = down_in C c_p (λ k x y u e. onward u (inr (inr (k, e)))) d 0 U (up_in C c_p (λ k x y u e. onward u (inr (inl (k, e)))) d D (λ x h. itself h))

          shut : Shut AnyEdge F
          shut x y u (inl e) = F-P e.0 x y u e.1
          shut x y u (inr (inl e)) = F-G e.0 x y u e.1
          shut x y u (inr (inr e)) = F-S e.0 x y u e.1
