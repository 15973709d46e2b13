-- What lay out marks for a tree's tokens are the sets of the tree's image: a test of the arcs of one depth is a test of the unions, or of the
-- propagate edges, of that depth.
use mathlib.Core.Path.{◌≡◌, refl, sym, ap, ap₂, ◌∙◌}
use mathlib.Core.Bool.{Bool, true, false, ◌&&◌, ◌||◌, and-true, and-false, or-false}
use mathlib.Core.List.{List, [], ◌∷◌}
use Prim.Native.Nat.{ℕ, suc}
use lib.Dec.{leb, ltb, eqb}
use Rattle.model.specs.Lists.{any, within}
use Rattle.model.specs.Tree.{Seq}
use Rattle.model.specs.Edges.{Way}
use Rattle.model.specs.Models.LayOut.{back-source, back-target, begin, entering, gather-block, gather-source, gather-target, lay_out, leaving, letter-place, loop_place, scatter-block, scatter-source, scatter-target, Plane}
use Rattle.model.specs.Models.Tokens.{tokens}
use Rattle.model.proofs.Image.LayOut.{lay_out_is}
use Rattle.model.proofs.Image.Marks.{on, on_kind}
use Rattle.model.proofs.Image.Sets.{tree_set}
use Rattle.model.proofs.Language.Arcs.{Arc, ArcKind, arcs, back_arc, fork_arc, letter_arc, loop_arc, propagate_arc}
use Rattle.model.proofs.Laws.Lists.{any_app}
use Rattle.model.proofs.Words.Chains.{no_fork, of_propagate, propagates_of}
use Rattle.model.proofs.Words.Forks.{forks_of, no_propagate, of_fork, Union}
use Rattle.model.proofs.Words.InOrder.{items_of, keep, pick}
use Rattle.model.proofs.Words.Propagate.{enters_of, leaves_of}

-- a test h of the arcs of depth k, as a test p of what is taken out of them
module _ (X : Type 0) (fromPropagate : ℕ → ℕ → List X) (from_fork : List Way → ℕ → ℕ → List X) (p : X → Bool) (h : ArcKind → ℕ → ℕ → Bool)
    (same : (w : ArcKind) (i j : ℕ) → h w i j ≡ any p (pick X fromPropagate from_fork w i j)) where
  items_any : (k : ℕ) (es : List Arc) → any (λ e. h e.kind e.from e.to && eqb e.level k) es ≡ any p (items_of X fromPropagate from_fork k es)
  items_any k [] = refl
  items_any k (e ∷ es) =
      ap₂ ◌||◌ (kept (eqb e.level k)) (items_any k es)
      ∙ sym (any_app p (keep X fromPropagate from_fork (eqb e.level k) (pick X fromPropagate from_fork e.kind e.from e.to))
      (items_of X fromPropagate from_fork k es))
    where
      kept : (b : Bool) → (h e.kind e.from e.to && b) ≡ any p (keep X fromPropagate from_fork b (pick X fromPropagate from_fork e.kind e.from e.to))
      kept true = and-true (h e.kind e.from e.to) ∙ same e.kind e.from e.to
      kept false = and-false (h e.kind e.from e.to)

-- for a mask of unions: only forks pass, and a fork passes as its union does
forks_any : (p : Union → Bool) (h : ArcKind → ℕ → ℕ → Bool) → ((c i j : ℕ) → h (letter_arc c) i j ≡ false) → ((c i j : ℕ) → h (loop_arc c) i j ≡ false)
    → ((i j : ℕ) → h propagate_arc i j ≡ false) → ((i j : ℕ) → h back_arc i j ≡ false) → ((xs : List Way) (i j : ℕ) → (h (fork_arc xs) i j || false) ≡ any p (of_fork xs i j))
    → (k : ℕ) (es : List Arc) → any (λ e. h e.kind e.from e.to && eqb e.level k) es ≡ any p (forks_of k es)
forks_any p h at_letter at_loop at_propagate at_back at_fork = items_any Union no_propagate of_fork p h same
  where
    same : (w : ArcKind) (i j : ℕ) → h w i j ≡ any p (pick Union no_propagate of_fork w i j)
    same (letter_arc c) i j = at_letter c i j
    same (loop_arc c) i j = at_loop c i j
    same propagate_arc i j = at_propagate i j
    same (fork_arc xs) i j = sym (or-false (h (fork_arc xs) i j)) ∙ at_fork xs i j
    same back_arc i j = at_back i j

-- for the propagate edges: only they pass
propagates_any : (p : Way → Bool) (h : ArcKind → ℕ → ℕ → Bool) → ((c i j : ℕ) → h (letter_arc c) i j ≡ false) → ((c i j : ℕ) → h (loop_arc c) i j ≡ false)
    → ((xs : List Way) (i j : ℕ) → h (fork_arc xs) i j ≡ false) → ((i j : ℕ) → h back_arc i j ≡ false) → ((i j : ℕ) → h propagate_arc i j ≡ p (i, j))
    → (k : ℕ) (es : List Arc) → any (λ e. h e.kind e.from e.to && eqb e.level k) es ≡ any p (propagates_of k es)
propagates_any p h at_letter at_loop at_fork at_back at_propagate = items_any Way of_propagate no_fork p h same
  where
    same : (w : ArcKind) (i j : ℕ) → h w i j ≡ any p (pick Way of_propagate no_fork w i j)
    same (letter_arc c) i j = at_letter c i j
    same (loop_arc c) i j = at_loop c i j
    same propagate_arc i j = at_propagate i j ∙ sym (or-false (p (i, j)))
    same (fork_arc xs) i j = at_fork xs i j
    same back_arc i j = at_back i j

leaves_any : (x : ℕ) (ps : List Way) → any (λ p. eqb x p.0) ps ≡ leaves_of ps x
leaves_any x [] = refl
leaves_any x (p ∷ ps) = ap (λ (b : Bool). eqb x p.0 || b) (leaves_any x ps)

enters_any : (x : ℕ) (ps : List Way) → any (λ p. eqb x p.1) ps ≡ enters_of ps x
enters_any x [] = refl
enters_any x (p ∷ ps) = ap (λ (b : Bool). eqb x p.1 || b) (enters_any x ps)

-- the sets by the arcs are the tree's
pub arcs_set : (s : Seq) (w : Plane) (k x : ℕ) → any (on w k x) (arcs s 0 0) ≡ tree_set s w k x
arcs_set s letter-place k x = refl
arcs_set s loop_place k x = refl
arcs_set s scatter-block k x =
    forks_any (λ u. eqb x (suc u.final)) (on_kind scatter-block x) (λ c i j. refl) (λ c i j. refl) (λ i j. refl) (λ i j. refl) (λ xs i j. refl) k (arcs s 0 0)
arcs_set s scatter-source k x =
    forks_any (λ u. eqb x u.start) (on_kind scatter-source x) (λ c i j. refl) (λ c i j. refl) (λ i j. refl) (λ i j. refl) (λ xs i j. refl) k (arcs s 0 0)
arcs_set s scatter-target k x =
    forks_any (λ u. within x u.starts) (on_kind scatter-target x) (λ c i j. refl) (λ c i j. refl) (λ i j. refl) (λ i j. refl) (λ xs i j. refl) k (arcs s 0 0)
arcs_set s gather-block k x =
    forks_any (λ u. leb u.first x && ltb x u.close) (on_kind gather-block x) (λ c i j. refl) (λ c i j. refl) (λ i j. refl) (λ i j. refl) (λ xs i j. refl) k (arcs s 0 0)
arcs_set s gather-source k x =
    forks_any (λ u. within x u.ends) (on_kind gather-source x) (λ c i j. refl) (λ c i j. refl) (λ i j. refl) (λ i j. refl) (λ xs i j. refl) k (arcs s 0 0)
arcs_set s gather-target k x =
    forks_any (λ u. eqb x u.close) (on_kind gather-target x) (λ c i j. refl) (λ c i j. refl) (λ i j. refl) (λ i j. refl) (λ xs i j. refl) k (arcs s 0 0)
arcs_set s leaving k x =
    propagates_any (λ p. eqb x p.0) (on_kind leaving x) (λ c i j. refl) (λ c i j. refl) (λ xs i j. refl) (λ i j. refl) (λ i j. refl) k (arcs s 0 0)
    ∙ leaves_any x (propagates_of k (arcs s 0 0))
arcs_set s entering k x =
    propagates_any (λ p. eqb x p.1) (on_kind entering x) (λ c i j. refl) (λ c i j. refl) (λ xs i j. refl) (λ i j. refl) (λ i j. refl) k (arcs s 0 0)
    ∙ enters_any x (propagates_of k (arcs s 0 0))
arcs_set s back-source k x = refl
arcs_set s back-target k x = refl

-- LAY OUT MARKS THE TREE'S SETS
pub tree_sets : (s : Seq) (w : Plane) (k x : ℕ) → lay_out (tokens s []) begin w k x ≡ tree_set s w k x
tree_sets s w k x = lay_out_is w k x s ∙ arcs_set s w k x
