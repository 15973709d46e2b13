-- THE PASSES ON A TREE give exactly what its edges without a letter reach but for back edges, for a tree's edges are nested as the passes ask; and two
-- rounds of them, with the back edges between, all that its edges without a letter reach.
use mathlib.Core.Path.{◌≡◌, ap, ◌∙◌, subst}
use mathlib.Core.Logic.{◌⊎◌, inl, inr, ◌↔◌}
use mathlib.Core.List.{List}
use Prim.Native.Nat.{ℕ, ◌≤◌, ◌<◌}
use native.Mathlib.Nat.{le_refl}
use native.Mathlib.Omega.{arith}
use lib.Dec.{T}
use Rattle.model.specs.Lists.{◌∈◌}
use Rattle.model.specs.Tree.{Seq}
use Rattle.model.specs.Edges.{depth, ends_of, seq_end, starts_of, Way}
use Rattle.model.specs.Live.{Reached}
use Rattle.model.proofs.Language.Arcs.{Arc, arc, arcs, back_arc, fork_arc, propagate_arc}
use Rattle.model.proofs.Laws.Bool.{le_or_lt}
use Rattle.model.proofs.Laws.Lists.{all_in, In, in_all}
use Rattle.model.proofs.Passes.Bodies.{before, behind, Between, Clear, enters, inner, inward, leaves, Lies, Meets, Moves, outer, past, same, Touch, touches, tree_bodies}
use Rattle.model.proofs.Passes.Closure.{Add, AnyEdge, Nested, passes, passes_are}
use Rattle.model.proofs.Passes.Known.{ArcFits, Begin, Finish, Info, known, Skip, Split, tree_fits}
use Rattle.model.proofs.Passes.Rounds.{Bodies, Either, rounds_are}
use Rattle.model.proofs.Words.Full.{Full}

module _ (s : Seq) where
  abbrev In-tree : Arc → Type 0
  In-tree = In (arcs s 0 0)

  -- ---- the edges of depth k
  abbrev pub Propagates : ℕ → ℕ → ℕ → Type 0
  Propagates k q r = In-tree (arc propagate_arc k q r)

  abbrev pub Scatters : ℕ → ℕ → ℕ → Type 0
  Scatters k q r = (xs : List Way) × (j : ℕ) × In-tree (arc (fork_arc xs) k q j) × (r ∈ starts_of xs)

  abbrev pub Gathers : ℕ → ℕ → ℕ → Type 0
  Gathers k q r = (xs : List Way) × (i : ℕ) × In-tree (arc (fork_arc xs) k i r) × (q ∈ ends_of xs)

  -- ---- what they say of their states
  W : ℕ → Info
  W = known s

  fit : (e : Arc) → In-tree e → ArcFits In-tree W (depth s) e
  unfolding W
  fit = all_in (ArcFits In-tree (known s) (depth s)) (arcs s 0 0) (tree_fits In-tree s (in_all (arcs s 0 0)))

  skip : (k q r : ℕ) → Propagates k q r → Skip W (depth s) k q r
  skip k q r i = fit (arc propagate_arc k q r) i

  parted : (xs : List Way) (k i j : ℕ) → In-tree (arc (fork_arc xs) k i j) → Split In-tree W (depth s) k i j xs
  parted xs k i j x = fit (arc (fork_arc xs) k i j) x

  begin : (k q r : ℕ) → Scatters k q r → Begin W k q r
  begin k q r x = (parted x.0 k q x.1 x.2).begins r x.3

  finish : (k q r : ℕ) → Gathers k q r → Finish In-tree W k q r
  finish k q r x = (parted x.0 k x.1 r x.2).ends q x.3

  nested : Nested Propagates Gathers Scatters (depth s)
  nested = record {
    level = λ x. (W x).level;
    propagate_level = λ k x y i. ((skip k x y i).level_from, (skip k x y i).level_to);
    gather_level = λ k x y i. ((finish k x y i).level, (parted i.0 k i.1 y i.2).level_to);
    scatter_level = λ k x y i. ((parted i.0 k x i.1 i.2).level_from, (begin k x y i).level);
    propagate_low = λ k x y i. (skip k x y i).low;
    gather_low = λ k x y i. (parted i.0 k i.1 y i.2).low;
    scatter_low = λ k x y i. (parted i.0 k x i.1 i.2).low;
    Free = λ a x. ((W x).home ≡ a) × T (W x).free;
    free_on = λ k a x y n i. ((skip k x y i).same ∙ n.0, (skip k x y i).on n.1);
    free_start = λ k x y i. ((begin k x y i).own, (begin k x y i).free);
    bypass = λ j k w a e f g n i. subst (λ (z : ℕ). Propagates k z f) (ap (λ (z : ℕ). (W z).source) n.0 ∙ (begin j w a i).source) ((finish k e f g).bypass n.1);
  }

  -- THE THEOREM: from any set of states
  pub tree_passes : (D : ℕ → Type 0) (q : ℕ) → passes Propagates Gathers Scatters (depth s) D q ↔ Reached (AnyEdge Propagates Gathers Scatters) D q
  tree_passes = passes_are Propagates Gathers Scatters nested

  -- ---- the back edges, and all edges without a letter
  abbrev pub Returns : ℕ → ℕ → Type 0
  Returns q r = (k : ℕ) × In-tree (arc back_arc k q r)

  pub return_low : (k q r : ℕ) → In-tree (arc back_arc k q r) → k < depth s
  return_low k q r i = fit (arc back_arc k q r) i

  abbrev pub Silent : ℕ → ℕ → Type 0
  Silent = Either (AnyEdge Propagates Gathers Scatters) Returns

  module _ (F : Full s) where
    clear : (k q r : ℕ) → In-tree (arc back_arc k q r) → (r ≤ q) × ((f : Arc) → In-tree f → Meets k r q f)
    clear k q r i = all_in (Clear In-tree) (arcs s 0 0) (tree_bodies s F) (arc back_arc k q r) i

    pub falls : (k q r : ℕ) → In-tree (arc back_arc k q r) → r ≤ q
    falls k q r i = (clear k q r i).0

    pub return_high : (k q r : ℕ) → In-tree (arc back_arc k q r) → q ≤ seq_end s 0
    return_high k q r i = (all_in (Touch (Between 0 (seq_end s 0)) 0) (arcs s 0 0) (touches s 0 0) (arc back_arc k q r) i).1.0.1

    -- every other edge is clear of a body
    moves : (k q r x y : ℕ) → In-tree (arc back_arc k q r) → AnyEdge Propagates Gathers Scatters x y → Moves r q x y
    moves k q r x y i (inl (j, e)) = (clear k q r i).1 (arc propagate_arc j x y) e
    moves k q r x y i (inr (inl (j, (xs, t, e, h)))) = ((clear k q r i).1 (arc (fork_arc xs) j t y) e).1 x h
    moves k q r x y i (inr (inr (j, (xs, u, e, h)))) = ((clear k q r i).1 (arc (fork_arc xs) j x u) e).0 y h

    pub lies : (k q r l i j : ℕ) → In-tree (arc back_arc k q r) → In-tree (arc back_arc l i j) → Lies k r q l i j
    lies k q r l i j b e = (clear k q r b).1 (arc back_arc l i j) e

    abbrev Body : ℕ → ℕ → ℕ → Type 0
    Body q r x = (r ≤ x) × (x ≤ q)

    decided : (q r x : ℕ) → Body q r x ⊎ (Body q r x → ⊥)
    decided q r x = go (le_or_lt r x) (le_or_lt x q)
      where
        go : (r ≤ x) ⊎ (x < r) → (x ≤ q) ⊎ (q < x) → Body q r x ⊎ (Body q r x → ⊥)
        go (inl h) (inl k) = inl (h, k)
        go (inl h) (inr k) = inr (λ b. omega arith)
        go (inr h) k = inr (λ b. omega arith)

    beyond : (q r x : ℕ) → (x < r) ⊎ (q < x) → Body q r x → ⊥
    beyond q r x (inl h) b = omega arith
    beyond q r x (inr h) b = omega arith

    enters_by : (q r x y : ℕ) → Moves r q x y → (Body q r x → ⊥) → Body q r y → y ≡ r
    enters_by q r x y (inward h k) n b = absurd (n h)
    enters_by q r x y (past h k) n b = absurd (beyond q r y k b)
    enters_by q r x y (enters h e) n b = e
    enters_by q r x y (leaves e k) n b = absurd (beyond q r y k b)

    leaves_by : (q r x y : ℕ) → Moves r q x y → Body q r x → (Body q r y → ⊥) → x ≡ q
    leaves_by q r x y (inward h k) b n = absurd (n k)
    leaves_by q r x y (past h k) b n = absurd (beyond q r x h b)
    leaves_by q r x y (enters h e) b n = absurd (beyond q r x h b)
    leaves_by q r x y (leaves e k) b n = e

    one_side : (k l q r h j : ℕ) → Lies k r q l h j → Body q r j → Body h j q → (j ≡ r) ⊎ (h ≡ q)
    one_side k l q r h j (same e d) b c = inl d
    one_side k l q r h j (inner n a z) b c = inr (omega arith)
    one_side k l q r h j (outer a z) b c = absurd (omega arith)
    one_side k l q r h j (before a) b c = absurd (omega arith)
    one_side k l q r h j (behind a) b c = absurd (omega arith)

    one_side_back : (k l q r h j : ℕ) → Lies k r q l h j → Body q r h → Body h j r → (h ≡ q) ⊎ (j ≡ r)
    one_side_back k l q r h j (same e d) b c = inl e
    one_side_back k l q r h j (inner n a z) b c = inr (omega arith)
    one_side_back k l q r h j (outer a z) b c = absurd (omega arith)
    one_side_back k l q r h j (before a) b c = absurd (omega arith)
    one_side_back k l q r h j (behind a) b c = absurd (omega arith)

    bodies : Bodies (AnyEdge Propagates Gathers Scatters) Returns
    bodies = record {
      Body = Body;
      decided = decided;
      starts = λ q r b. (le_refl r, (clear b.0 q r b.1).0);
      ends = λ q r b. ((clear b.0 q r b.1).0, le_refl q);
      enter = λ q r x y b e n i. enters_by q r x y (moves b.0 q r x y b.1 e) n i;
      leave = λ q r x y b e i n. leaves_by q r x y (moves b.0 q r x y b.1 e) i n;
      nested = λ q r h j b c i k. one_side b.0 c.0 q r h j (lies b.0 q r c.0 h j b.1 c.1) i k;
    }

    -- THE THEOREM: from any set of states two rounds give what all edges without a letter reach
    pub tree_rounds : (D : ℕ → Type 0) (q : ℕ)
        → Reached (AnyEdge Propagates Gathers Scatters) (Add Returns (Reached (AnyEdge Propagates Gathers Scatters) D)) q ↔ Reached Silent D q
    tree_rounds = rounds_are (AnyEdge Propagates Gathers Scatters) Returns bodies

    -- and so against the edges: what leads to a set of states
    abbrev Against : (ℕ → ℕ → Type 0) → ℕ → ℕ → Type 0
    Against R q r = R r q

    against : Bodies (Against (AnyEdge Propagates Gathers Scatters)) (Against Returns)
    against = record {
      Body = λ r q x. Body q r x;
      decided = λ r q x. decided q r x;
      starts = λ r q b. ((clear b.0 q r b.1).0, le_refl q);
      ends = λ r q b. (le_refl r, (clear b.0 q r b.1).0);
      enter = λ r q x y b e n i. leaves_by q r y x (moves b.0 q r y x b.1 e) i n;
      leave = λ r q x y b e i n. enters_by q r y x (moves b.0 q r y x b.1 e) n i;
      nested = λ r q j h b c i k. one_side_back b.0 c.0 q r h j (lies b.0 q r c.0 h j b.1 c.1) i k;
    }

    pub tree_rounds_against : (D : ℕ → Type 0) (q : ℕ)
        → Reached (Against (AnyEdge Propagates Gathers Scatters)) (Add (Against Returns) (Reached (Against (AnyEdge Propagates Gathers Scatters)) D)) q
        ↔ Reached (Either (Against (AnyEdge Propagates Gathers Scatters)) (Against Returns)) D q
    tree_rounds_against = rounds_are (Against (AnyEdge Propagates Gathers Scatters)) (Against Returns) against
