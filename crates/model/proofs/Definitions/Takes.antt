-- The edges that take a byte are the ways along arcs by that byte: both are a letter's own edge and its loop.
use mathlib.Core.Path.{◌≡◌, refl, sym, subst}
use mathlib.Core.Logic.{◌⊎◌, inl, inr, ◌↔◌}
use mathlib.Core.Bool.{◌||◌, or-false}
use mathlib.Core.List.{List, [], ◌∷◌, ◌++◌}
use Prim.Native.Nat.{ℕ, suc}
use lib.Dec.{T}
use Rattle.model.specs.Bits.{bit}
use Rattle.model.specs.Tree.{can_loop, can_skip, Tree}
use Rattle.model.specs.Edges.{by_letter, by_loop, Edge, edge, EdgeKind, edges_of, gather_edge, letter_at, letter_edge, loop_edge, Part, parts, propagate_edge, return_at, scatter_edge, union_at}
use Rattle.model.specs.Edges.{when as whenEdge}
use Rattle.model.specs.Live.{Takes}
use Rattle.model.proofs.Definitions.Along.{arc_when, ByteAlong, edge_when, from_of, gathers, kind-of, over, scatters, to_of, when_arc, when_edge}
use Rattle.model.proofs.Language.Arcs.{Arc, arc, arcs, Byte, fork_arc, letter_arc, loop_arc, propagate_arc, when}
use Rattle.model.proofs.Language.Parts.{arcs_are, arcs_of}
use Rattle.model.proofs.Laws.Bool.{or_left}
use Rattle.model.proofs.Laws.Each.{each_in, in_each, map_in}
use Rattle.model.proofs.Laws.Lists.{In, in_split, sooner}

abbrev TakesIn : List Edge → ℕ → ℕ → ℕ → Type 0
TakesIn es b q r = (e : EdgeKind) × (k : ℕ) × In es (edge e k q r) × T (by_letter b e || by_loop b e)

takes_part : (p : Part) (b q r : ℕ) → TakesIn (edges_of p) b q r → ByteAlong (arcs_of p) b q r
takes_part (letter_at c x k i) b q r (e, j, m, h) = go m
  where
    L : Arc
    L = arc (loop_arc c) k (suc i) (suc i)

    S : Arc
    S = arc propagate_arc k i (suc i)

    Found : Type 0
    Found = ByteAlong (arcs_of (letter_at c x k i)) b q r

    kept : (f : EdgeKind) → e ≡ f → T (by_letter b f || by_loop b f)
    kept f s = subst (λ (y : EdgeKind). T (by_letter b y || by_loop b y)) s h

    rest : In (whenEdge (can_loop x) (edge (loop_edge c) k (suc i) (suc i))) (edge e j q r) ⊎ In (whenEdge (can_skip x) (edge propagate_edge k i (suc i))) (edge e j q r) → Found
    rest (inl n) =
        let s = edge_when (can_loop x) (edge (loop_edge c) k (suc i) (suc i)) (edge e j q r) n in
        (L, inr (when_arc (can_loop x) L (when (can_skip x) S []) s.0), (kept (loop_edge c) (kind-of s.1), from_of s.1, to_of s.1))
    rest (inr n) = absurd (kept propagate_edge (kind-of (edge_when (can_skip x) _ _ n).1))

    go : In (edges_of (letter_at c x k i)) (edge e j q r) → Found
    go (inl s) =
        (arc (letter_arc c) k i (suc i), inl refl, (subst T (or-false (bit c b)) (kept (letter_edge c) (kind-of s)), from_of s, to_of s))
    go (inr n) = rest (in_split (whenEdge (can_loop x) (edge (loop_edge c) k (suc i) (suc i))) (whenEdge (can_skip x) (edge propagate_edge k i (suc i))) (edge e j q r) n)
takes_part (union_at empty k t ws u) b q r (e, j, m, h) = go (in_split (scatters k t ws) (gathers k u ws ++ over empty k t u) (edge e j q r) m)
  where
    Found : Type 0
    Found = ByteAlong (arcs_of (union_at empty k t ws u)) b q r

    kept : (f : EdgeKind) → e ≡ f → T (by_letter b f || by_loop b f)
    kept f s = subst (λ (y : EdgeKind). T (by_letter b y || by_loop b y)) s h

    rest : In (gathers k u ws) (edge e j q r) ⊎ In (over empty k t u) (edge e j q r) → Found
    rest (inl n) = let w = map_in (λ a. edge gather_edge k a.1 u) ws (edge e j q r) n in absurd (kept gather_edge (kind-of w.2))
    rest (inr n) = absurd (kept propagate_edge (kind-of (edge_when empty _ _ n).1))

    go : In (scatters k t ws) (edge e j q r) ⊎ In (gathers k u ws ++ over empty k t u) (edge e j q r) → Found
    go (inl n) = let w = map_in (λ a. edge scatter_edge k t a.0) ws (edge e j q r) n in absurd (kept scatter_edge (kind-of w.2))
    go (inr n) = rest (in_split (gathers k u ws) (over empty k t u) (edge e j q r) n)
takes_part (return_at k i j) b q r (e, l, inl s, h) = absurd (subst (λ (y : EdgeKind). T (by_letter b y || by_loop b y)) (kind-of s) h)
takes_part (return_at k i j) b q r (e, l, inr n, h) = absurd n

part_takes : (p : Part) (b q r : ℕ) → ByteAlong (arcs_of p) b q r → TakesIn (edges_of p) b q r
part_takes (letter_at c x k i) b q r (a, m, h) = go m
  where
    L : Arc
    L = arc (loop_arc c) k (suc i) (suc i)

    S : Arc
    S = arc propagate_arc k i (suc i)

    Found : Type 0
    Found = TakesIn (edges_of (letter_at c x k i)) b q r

    moved : (y : Arc) → a ≡ y → Byte b y.kind y.from y.to q r
    moved y s = subst (λ (y : Arc). Byte b y.kind y.from y.to q r) s h

    skip : (T (can_skip x) × (a ≡ S)) ⊎ In [] a → Found
    skip (inl s) = absurd (moved S s.1)
    skip (inr n) = absurd n

    loop : (T (can_loop x) × (a ≡ L)) ⊎ In (when (can_skip x) S []) a → Found
    loop (inl s) =
        let n = moved L s.1 in
        let w = whenEdge (can_loop x) (edge (loop_edge c) k (suc i) (suc i)) in (
          loop_edge c,
          k,
          inr (sooner w (whenEdge (can_skip x) (edge propagate_edge k i (suc i))) (edge (loop_edge c) k q r)
              (subst (In w) (λ l. edge (loop_edge c) k (sym n.1 l) (sym n.2 l)) (when_edge (can_loop x) (edge (loop_edge c) k (suc i) (suc i)) s.0))),
          n.0,
        )
    loop (inr n) = skip (arc_when (can_skip x) S [] a n)

    go : In (arcs_of (letter_at c x k i)) a → Found
    go (inl s) = let n = moved (arc (letter_arc c) k i (suc i)) s in (letter_edge c, k, inl (λ l. edge (letter_edge c) k (n.1 l) (n.2 l)), or_left (bit c b) _ n.0)
    go (inr n) = loop (arc_when (can_loop x) L (when (can_skip x) S []) a n)
part_takes (union_at empty k t ws u) b q r (a, m, h) = go (arc_when empty P (F ∷ []) a m)
  where
    F : Arc
    F = arc (fork_arc ws) k t u

    P : Arc
    P = arc propagate_arc k t u

    moved : (y : Arc) → a ≡ y → Byte b y.kind y.from y.to q r
    moved y s = subst (λ (y : Arc). Byte b y.kind y.from y.to q r) s h

    go : (T empty × (a ≡ P)) ⊎ In (F ∷ []) a → TakesIn (edges_of (union_at empty k t ws u)) b q r
    go (inl s) = absurd (moved P s.1)
    go (inr (inl s)) = absurd (moved F s)
    go (inr (inr n)) = absurd n
part_takes (return_at k i j) b q r (a, inl s, h) = absurd (subst (λ (y : Arc). Byte b y.kind y.from y.to q r) s h)
part_takes (return_at k i j) b q r (a, inr n, h) = absurd n

-- AN EDGE THAT TAKES A BYTE IS A WAY ALONG AN ARC BY THAT BYTE
pub takes_is : (t : Tree) (b q r : ℕ) → Takes t b q r ↔ ByteAlong (arcs t 0 0) b q r
takes_is t b q r = (there, back)
  where
    there : Takes t b q r → ByteAlong (arcs t 0 0) b q r
    there (e, k, m, h) =
        let p = each_in edges_of (parts t 0 0) (edge e k q r) m in
        let a = takes_part p.0 b q r (e, k, p.2, h) in
        (a.0, subst (λ (l : List Arc). In l a.0) (sym (arcs_are t)) (in_each arcs_of (parts t 0 0) p.0 a.0 p.1 a.1), a.2)

    back : ByteAlong (arcs t 0 0) b q r → Takes t b q r
    back (a, m, h) =
        let p = each_in arcs_of (parts t 0 0) a (subst (λ (l : List Arc). In l a) (arcs_are t) m) in
        let e = part_takes p.0 b q r (a, p.2, h) in
        (e.0, e.1, in_each edges_of (parts t 0 0) p.0 (edge e.0 e.1 q r) p.1 e.2, e.3)
