-- The edges without a letter are the ways along arcs without a letter: part by part, a fork's ways are its union's scatter and gather edges.
use mathlib.Core.Path.{◌≡◌, refl, sym, subst}
use mathlib.Core.Logic.{◌⊎◌, inl, inr, ◌↔◌}
use mathlib.Core.List.{List, [], ◌∷◌, ◌++◌}
use Prim.Native.Nat.{ℕ, suc}
use lib.Dec.{T}
use Rattle.model.specs.Tree.{can_loop, can_skip, Tree}
use Rattle.model.specs.Edges.{back_edge, Edge, edge, EdgeKind, edges_of, ends_of, gather_edge, letter_at, loop_edge, Part, parts, propagate_edge, return_at, scatter_edge, starts_of, union_at}
use Rattle.model.specs.Edges.{when as whenEdge}
use Rattle.model.specs.Live.{Free, letterless}
use Rattle.model.proofs.Definitions.Along.{arc_when, edge_when, from_of, gathers, kind-of, over, scatters, StillAlong, to_of, when_arc, when_edge, when_later}
use Rattle.model.proofs.Language.Arcs.{Arc, arc, arcs, back_arc, fork_arc, letter_arc, loop_arc, propagate_arc, Still, when}
use Rattle.model.proofs.Language.Parts.{arcs_are, arcs_of}
use Rattle.model.proofs.Laws.Each.{each_in, in_each, in_map, map_in}
use Rattle.model.proofs.Laws.Lists.{In, in_split, later, sooner}

-- ---- edges without a letter
abbrev FreeIn : List Edge → ℕ → ℕ → Type 0
FreeIn es q r = (e : EdgeKind) × (k : ℕ) × In es (edge e k q r) × T (letterless e)

free_part : (p : Part) (q r : ℕ) → FreeIn (edges_of p) q r → StillAlong (arcs_of p) q r
free_part (letter_at c x k i) q r (e, j, m, h) = go m
  where
    L : Arc
    L = arc (loop_arc c) k (suc i) (suc i)

    S : Arc
    S = arc propagate_arc k i (suc i)

    rest : In (whenEdge (can_loop x) (edge (loop_edge c) k (suc i) (suc i))) (edge e j q r) ⊎ In (whenEdge (can_skip x) (edge propagate_edge k i (suc i))) (edge e j q r)
        → StillAlong (arcs_of (letter_at c x k i)) q r
    rest (inl n) = absurd (subst (λ (f : EdgeKind). T (letterless f)) (kind-of (edge_when (can_loop x) _ _ n).1) h)
    rest (inr n) =
        let s = edge_when (can_skip x) (edge propagate_edge k i (suc i)) (edge e j q r) n in
        (S, inr (when_later (can_loop x) L (when (can_skip x) S []) S (when_arc (can_skip x) S [] s.0)), (from_of s.1, to_of s.1))

    go : In (edges_of (letter_at c x k i)) (edge e j q r) → StillAlong (arcs_of (letter_at c x k i)) q r
    go (inl s) = absurd (subst (λ (f : EdgeKind). T (letterless f)) (kind-of s) h)
    go (inr n) = rest (in_split (whenEdge (can_loop x) (edge (loop_edge c) k (suc i) (suc i))) (whenEdge (can_skip x) (edge propagate_edge k i (suc i))) (edge e j q r) n)
free_part (union_at empty k t ws u) q r (e, j, m, h) = go (in_split (scatters k t ws) (gathers k u ws ++ over empty k t u) (edge e j q r) m)
  where
    F : Arc
    F = arc (fork_arc ws) k t u

    P : Arc
    P = arc propagate_arc k t u

    fork_in : In (arcs_of (union_at empty k t ws u)) F
    fork_in = when_later empty P (F ∷ []) F (inl refl)

    rest : In (gathers k u ws) (edge e j q r) ⊎ In (over empty k t u) (edge e j q r) → StillAlong (arcs_of (union_at empty k t ws u)) q r
    rest (inl n) =
        let w = map_in (λ a. edge gather_edge k a.1 u) ws (edge e j q r) n in
        (F, fork_in, inr (subst (In (ends_of ws)) (sym (from_of w.2)) (in_map (λ a. a.1) ws w.0 w.1), to_of w.2))
    rest (inr n) =
        let s = edge_when empty (edge propagate_edge k t u) (edge e j q r) n in
        (P, when_arc empty P (F ∷ []) s.0, (from_of s.1, to_of s.1))

    go : In (scatters k t ws) (edge e j q r) ⊎ In (gathers k u ws ++ over empty k t u) (edge e j q r) → StillAlong (arcs_of (union_at empty k t ws u)) q r
    go (inl n) =
        let w = map_in (λ a. edge scatter_edge k t a.0) ws (edge e j q r) n in
        (F, fork_in, inl (from_of w.2, subst (In (starts_of ws)) (sym (to_of w.2)) (in_map (λ a. a.0) ws w.0 w.1)))
    go (inr n) = rest (in_split (gathers k u ws) (over empty k t u) (edge e j q r) n)
free_part (return_at k i j) q r (e, l, inl s, h) = (arc back_arc k i j, inl refl, (from_of s, to_of s))
free_part (return_at k i j) q r (e, l, inr n, h) = absurd n

part_free : (p : Part) (q r : ℕ) → StillAlong (arcs_of p) q r → FreeIn (edges_of p) q r
part_free (letter_at c x k i) q r (a, m, h) = go m
  where
    L : Arc
    L = arc (loop_arc c) k (suc i) (suc i)

    S : Arc
    S = arc propagate_arc k i (suc i)

    Found : Type 0
    Found = FreeIn (edges_of (letter_at c x k i)) q r

    moved : (b : Arc) → a ≡ b → Still b.kind b.from b.to q r
    moved b s = subst (λ (y : Arc). Still y.kind y.from y.to q r) s h

    skip : (T (can_skip x) × (a ≡ S)) ⊎ In [] a → Found
    skip (inl s) =
        let n = moved S s.1 in (
          propagate_edge,
          k,
          inr (later (whenEdge (can_loop x) (edge (loop_edge c) k (suc i) (suc i))) (whenEdge (can_skip x) (edge propagate_edge k i (suc i))) (edge propagate_edge k q r)
              (subst (In (whenEdge (can_skip x) (edge propagate_edge k i (suc i)))) (λ l. edge propagate_edge k (sym n.0 l) (sym n.1 l)) (when_edge (can_skip x) (edge propagate_edge k i (suc i)) s.0))),
          tt,
        )
    skip (inr n) = absurd n

    loop : (T (can_loop x) × (a ≡ L)) ⊎ In (when (can_skip x) S []) a → Found
    loop (inl s) = absurd (moved L s.1)
    loop (inr n) = skip (arc_when (can_skip x) S [] a n)

    go : In (arcs_of (letter_at c x k i)) a → Found
    go (inl s) = absurd (moved (arc (letter_arc c) k i (suc i)) s)
    go (inr n) = loop (arc_when (can_loop x) L (when (can_skip x) S []) a n)
part_free (union_at empty k t ws u) q r (a, m, h) = go (arc_when empty P (F ∷ []) a m)
  where
    F : Arc
    F = arc (fork_arc ws) k t u

    P : Arc
    P = arc propagate_arc k t u

    Found : Type 0
    Found = FreeIn (edges_of (union_at empty k t ws u)) q r

    moved : (b : Arc) → a ≡ b → Still b.kind b.from b.to q r
    moved b s = subst (λ (y : Arc). Still y.kind y.from y.to q r) s h

    fork : ((q ≡ t) × In (starts_of ws) r) ⊎ (In (ends_of ws) q × (r ≡ u)) → Found
    fork (inl n) =
        let w = map_in (λ a. a.0) ws r n.1 in (
          scatter_edge,
          k,
          sooner (scatters k t ws) (gathers k u ws ++ over empty k t u) (edge scatter_edge k q r)
              (subst (In (scatters k t ws)) (λ l. edge scatter_edge k (sym n.0 l) (sym w.2 l)) (in_map (λ a. edge scatter_edge k t a.0) ws w.0 w.1)),
          tt,
        )
    fork (inr n) =
        let w = map_in (λ a. a.1) ws q n.0 in (
          gather_edge,
          k,
          later (scatters k t ws) (gathers k u ws ++ over empty k t u) (edge gather_edge k q r) (sooner (gathers k u ws) (over empty k t u) (edge gather_edge k q r)
              (subst (In (gathers k u ws)) (λ l. edge gather_edge k (sym w.2 l) (sym n.1 l)) (in_map (λ a. edge gather_edge k a.1 u) ws w.0 w.1))),
          tt,
        )

    go : (T empty × (a ≡ P)) ⊎ In (F ∷ []) a → Found
    go (inl s) =
        let n = moved P s.1 in (
          propagate_edge,
          k,
          later (scatters k t ws) (gathers k u ws ++ over empty k t u) (edge propagate_edge k q r) (later (gathers k u ws) (over empty k t u) (edge propagate_edge k q r)
              (subst (In (over empty k t u)) (λ l. edge propagate_edge k (sym n.0 l) (sym n.1 l)) (when_edge empty (edge propagate_edge k t u) s.0))),
          tt,
        )
    go (inr (inl s)) = fork (moved F s)
    go (inr (inr n)) = absurd n
part_free (return_at k i j) q r (a, inl s, h) =
    let n = subst (λ (y : Arc). Still y.kind y.from y.to q r) s h in (back_edge, k, inl (λ l. edge back_edge k (n.0 l) (n.1 l)), tt)
part_free (return_at k i j) q r (a, inr n, h) = absurd n

-- AN EDGE WITHOUT A LETTER IS A WAY ALONG AN ARC WITHOUT A LETTER
pub free_is : (t : Tree) (q r : ℕ) → Free t q r ↔ StillAlong (arcs t 0 0) q r
free_is t q r = (there, back)
  where
    there : Free t q r → StillAlong (arcs t 0 0) q r
    there (e, k, m, h) =
        let p = each_in edges_of (parts t 0 0) (edge e k q r) m in
        let a = free_part p.0 q r (e, k, p.2, h) in
        (a.0, subst (λ (l : List Arc). In l a.0) (sym (arcs_are t)) (in_each arcs_of (parts t 0 0) p.0 a.0 p.1 a.1), a.2)

    back : StillAlong (arcs t 0 0) q r → Free t q r
    back (a, m, h) =
        let p = each_in arcs_of (parts t 0 0) a (subst (λ (l : List Arc). In l a) (arcs_are t) m) in
        let e = part_free p.0 q r (a, p.2, h) in
        (e.0, e.1, in_each edges_of (parts t 0 0) p.0 (edge e.0 e.1 q r) p.1 e.2, e.3)
