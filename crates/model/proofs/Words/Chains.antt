-- THE PROPAGATE EDGES OF ONE DEPTH MAKE CHAINS: they rise, no two of them start in one state and no two end in one, for they stand in order. So "a
-- maximal chain of propagate edges" has its smallest state where no edge ends and its largest where none starts.
use mathlib.Core.Path.{◌≡◌, refl, subst, sym}
use mathlib.Core.Logic.{◌⊎◌, inl, inr}
use mathlib.Core.Bool.{Bool, true, false}
use mathlib.Core.List.{List, [], ◌∷◌, ◌++◌}
use Prim.Native.Nat.{ℕ, suc, ◌≤◌, ◌<◌}
use native.Mathlib.Nat.{le_refl}
use native.Mathlib.Omega.{arith}
use Rattle.model.specs.Tree.{Alts, Seq}
use Rattle.model.specs.Edges.{alts_end, seq_end, Way}
use Rattle.model.proofs.Language.Arcs.{Arc, arc, ArcKind, arcs, back_arc, fork_arc, letter_arc, loop_arc, propagate_arc}
use Rattle.model.proofs.Language.Languages.{alts_end_lt}
use Rattle.model.proofs.Laws.Lists.{all_in, In}
use Rattle.model.proofs.Words.Full.{Full, FullA}
use Rattle.model.proofs.Words.InOrder.{items_in, items_out, items_of, keep, pick, Rows, rows, rows_apart, rows_ok}

abbrev pub of_propagate : ℕ → ℕ → List Way
of_propagate i j = (i, j) ∷ []

abbrev pub no_fork : List Way → ℕ → ℕ → List Way
no_fork xs i j = []

abbrev pub propagates_of : ℕ → List Arc → List Way
propagates_of = items_of Way of_propagate no_fork

-- they are the propagate edges among the arcs
pub propagate-in : (k : ℕ) (es : List Arc) (i j : ℕ) → In es (arc propagate_arc k i j) → In (propagates_of k es) (i, j)
propagate-in k es i j h = items_in Way of_propagate no_fork k es (arc propagate_arc k i j) (i, j) h refl (inl refl)

pub propagate_out : (k : ℕ) (es : List Arc) (p : Way) → In (propagates_of k es) p → In es (arc propagate_arc k p.0 p.1)
propagate_out k es p h = let r = items_out Way of_propagate no_fork k es p h in go r.0 r.0.kind refl r.1 r.2 r.3
  where
    go : (e : Arc) (w : ArcKind) → e.kind ≡ w → In es e → e.level ≡ k → In (pick Way of_propagate no_fork w e.from e.to) p
        → In es (arc propagate_arc k p.0 p.1)
    go e (letter_arc c) q i l h = absurd h
    go e (loop_arc c) q i l h = absurd h
    go e propagate_arc q i l (inl x) = subst (In es) (λ n. arc (q n) (l n) (sym x n).0 (sym x n).1) i
    go e propagate_arc q i l (inr x) = absurd x
    go e (fork_arc xs) q i l h = absurd h
    go e back_arc q i l h = absurd h

-- ---- they stand in order
abbrev pub Rises : Way → Type 0
Rises p = p.0 < p.1

abbrev pub Chained : ℕ → ℕ → List Way → Type 0
Chained = Rows (λ p. p.0) (λ p. p.1) Rises

pub propagates_in_order : (s : Seq) (k : ℕ) → Full s → Chained 0 (seq_end s 0) (propagates_of k (arcs s 0 0))
propagates_in_order s k F = rows Way of_propagate no_fork (λ p. p.0) (λ p. p.1) Rises (λ t. (le_refl t, le_refl (suc t), le_refl (suc t))) one s 0 0 k F
  where
    one : (b : Bool) (a : Alts) (t : ℕ) → FullA a → Chained t (suc (alts_end a t)) (keep Way of_propagate no_fork b (of_propagate t (suc (alts_end a t))) ++ [])
    one true a t F = (le_refl t, omega (arith, alts_end_lt a t), le_refl (suc (alts_end a t)))
    one false a t F = omega (arith, alts_end_lt a t)

-- ---- THE CHAINS OF A TREE
module _ (s : Seq) (k : ℕ) (F : Full s) where
  abbrev ps : List Way
  ps = propagates_of k (arcs s 0 0)

  pub edge_rises : (p : Way) → In ps p → p.0 < p.1
  edge_rises = all_in Rises ps (rows_ok (λ p. p.0) (λ p. p.1) Rises 0 (seq_end s 0) ps (propagates_in_order s k F))

  apart : (p q : Way) → In ps p → In ps q → (p ≡ q) ⊎ (p.1 ≤ q.0) ⊎ (q.1 ≤ p.0)
  apart = rows_apart (λ p. p.0) (λ p. p.1) Rises (λ p h. h) 0 (seq_end s 0) ps (propagates_in_order s k F)

  -- no two start in one state
  pub one_start : (p q : Way) → In ps p → In ps q → p.0 ≡ q.0 → p ≡ q
  one_start p q i j e =
      elim (apart p q i j) [
        | inl d ↦ d
        | inr (inl l) ↦ absurd (omega (arith, edge_rises p i))
        | inr (inr l) ↦ absurd (omega (arith, edge_rises q j))
      ]

  -- no two end in one state
  pub one_end : (p q : Way) → In ps p → In ps q → p.1 ≡ q.1 → p ≡ q
  one_end p q i j e =
      elim (apart p q i j) [
        | inl d ↦ d
        | inr (inl l) ↦ absurd (omega (arith, edge_rises q j))
        | inr (inr l) ↦ absurd (omega (arith, edge_rises p i))
      ]
