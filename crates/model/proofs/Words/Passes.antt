-- THE PASSES ON BITS: propagate k and gather k-1 for k from d down to 1, propagate 0, then scatter k-1 and propagate k for k from 1 up to d give exactly
-- what the edges without a letter reach but for back edges. Each pass is the pass over edges, and those together reach everything.
use mathlib.Core.Logic.{inl, inr, ◌↔◌}
use mathlib.Core.Bool.{Bool}
use Prim.Native.Nat.{ℕ, zero, suc}
use lib.Dec.{T}
use Rattle.model.specs.Tree.{Seq}
use Rattle.model.specs.Edges.{depth}
use Rattle.model.specs.Live.{Reached}
use Rattle.model.proofs.Passes.Closure.{◌⊆◌, Add, AnyEdge, down, reached_more, Set, up}
use Rattle.model.proofs.Passes.OnTrees.{Gathers, Propagates, Scatters, tree_passes}
use Rattle.model.proofs.Words.Full.{Full}
use Rattle.model.proofs.Words.GatherPass.{gathered, gathered_is}
use Rattle.model.proofs.Words.PropagatePass.{propagated, propagated_is}
use Rattle.model.proofs.Words.ScatterPass.{scattered, scattered_is}

-- ---- a larger set reaches more
pub add_map : (E : ℕ → ℕ → Type 0) {D D' : Set} → D ⊆ D' → Add E D ⊆ Add E D'
add_map E f q (inl h) = inl (f q h)
add_map E f q (inr h) = inr (h.0, f h.0 h.1, h.2)

module _ (s : Seq) (F : Full s) where
  abbrev pub risen : ℕ → (ℕ → Bool) → ℕ → Bool
  risen zero D = propagated s F 0 D
  risen (suc k) D = risen k (gathered s F k (propagated s F (suc k) D))

  abbrev pub fallen : ℕ → ℕ → (ℕ → Bool) → ℕ → Bool
  fallen zero k D = D
  fallen (suc n) k D = fallen n (suc k) (propagated s F (suc k) (scattered s F k D))

  abbrev pub passed : ℕ → (ℕ → Bool) → ℕ → Bool
  passed d D = fallen d 0 (risen d D)

  -- the passes over edges
  abbrev Up : ℕ → Set → Set
  Up = up (Propagates s) (Gathers s) (Scatters s)

  abbrev Down : ℕ → ℕ → Set → Set
  Down = down (Propagates s) (Gathers s) (Scatters s)

  up_map : (n : ℕ) {D D' : Set} → D ⊆ D' → Up n D ⊆ Up n D'
  up_map zero f q h = reached_more f h
  up_map (suc n) f q h = up_map n (add_map (Gathers s n) (λ y. reached_more f)) q h

  down_map : (n k : ℕ) {D D' : Set} → D ⊆ D' → Down n k D ⊆ Down n k D'
  down_map zero k f q h = f q h
  down_map (suc n) k f q h = down_map n (suc k) (λ x. reached_more (add_map (Scatters s k) f)) q h

  risen_is : (n : ℕ) (D : ℕ → Bool) (q : ℕ) → T (risen n D q) ↔ Up n (λ x. T (D x)) q
  risen_is zero D q = propagated_is s F 0 D q
  risen_is (suc n) D q =
      let P = propagated s F (suc n) D in
      let G = gathered s F n P in (
        λ h. up_map n (λ x u. add_map (Gathers s n) (λ y v. (propagated_is s F (suc n) D y).0 v) x ((gathered_is s F n P x).0 u)) q ((risen_is n G q).0 h),
        λ h. (risen_is n G q).1 (up_map n (λ x u. (gathered_is s F n P x).1 (add_map (Gathers s n) (λ y v. (propagated_is s F (suc n) D y).1 v) x u)) q h),
      )

  fallen_is : (n k : ℕ) (D : ℕ → Bool) (q : ℕ) → T (fallen n k D q) ↔ Down n k (λ x. T (D x)) q
  fallen_is zero k D q = (λ h. h, λ h. h)
  fallen_is (suc n) k D q =
      let S = scattered s F k D in
      let P = propagated s F (suc k) S in (
        λ h. down_map n (suc k) (λ x u. reached_more (λ y v. (scattered_is s F k D y).0 v) ((propagated_is s F (suc k) S x).0 u)) q ((fallen_is n (suc k) P q).0 h),
        λ h. (fallen_is n (suc k) P q).1 (down_map n (suc k) (λ x u. (propagated_is s F (suc k) S x).1 (reached_more (λ y v. (scattered_is s F k D y).1 v) u)) q h),
      )

  -- THE THEOREM: from any set of states the passes on bits compute what propagate, gather and scatter edges reach
  pub passed_is : (D : ℕ → Bool) (q : ℕ) → T (passed (depth s) D q) ↔ Reached (AnyEdge (Propagates s) (Gathers s) (Scatters s)) (λ x. T (D x)) q
  passed_is D q =
      let d = depth s in (
        λ h. (tree_passes s (λ x. T (D x)) q).0 (down_map d 0 (λ x u. (risen_is d D x).0 u) q ((fallen_is d 0 (risen d D) q).0 h)),
        λ h. (fallen_is d 0 (risen d D) q).1 (down_map d 0 (λ x u. (risen_is d D x).1 u) q ((tree_passes s (λ x. T (D x)) q).1 h)),
      )
