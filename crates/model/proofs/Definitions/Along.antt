-- A way along an arc, and what edges and arcs that stand in a list under a condition are.
use mathlib.Core.Path.{◌≡◌, refl, ap}
use mathlib.Core.Logic.{◌⊎◌, inl, inr}
use mathlib.Core.Bool.{Bool, true, false}
use mathlib.Core.List.{List, map}
use Prim.Native.Nat.{ℕ}
use lib.Dec.{T}
use Rattle.model.specs.Edges.{Edge, edge, gather_edge, propagate_edge, scatter_edge, Way}
use Rattle.model.specs.Edges.{when as whenEdge}
use Rattle.model.proofs.Language.Arcs.{Arc, Byte, Still, when}
use Rattle.model.proofs.Laws.Lists.{In}

-- ---- a way without a letter, and one by a byte, along some arc of a list
abbrev pub StillAlong : List Arc → ℕ → ℕ → Type 0
StillAlong es q r = (a : Arc) × In es a × Still a.kind a.from a.to q r

abbrev pub ByteAlong : List Arc → ℕ → ℕ → ℕ → Type 0
ByteAlong es b q r = (a : Arc) × In es a × Byte b a.kind a.from a.to q r

-- ---- a union's edges
abbrev pub scatters : ℕ → ℕ → List Way → List Edge
scatters k t ws = map (λ a. edge scatter_edge k t a.0) ws

abbrev pub gathers : ℕ → ℕ → List Way → List Edge
gathers k u ws = map (λ a. edge gather_edge k a.1 u) ws

abbrev pub over : Bool → ℕ → ℕ → ℕ → List Edge
over empty k t u = whenEdge empty (edge propagate_edge k t u)

-- ---- what `when` adds
pub edge_when : (b : Bool) (e u : Edge) → In (whenEdge b e) u → T b × (u ≡ e)
edge_when true e u (inl p) = (tt, p)
edge_when true e u (inr h) = absurd h
edge_when false e u h = absurd h

pub when_edge : (b : Bool) (e : Edge) → T b → In (whenEdge b e) e
when_edge true e h = inl refl
when_edge false e h = absurd h

pub arc_when : (b : Bool) (e : Arc) (es : List Arc) (a : Arc) → In (when b e es) a → (T b × (a ≡ e)) ⊎ In es a
arc_when true e es a (inl p) = inl (tt, p)
arc_when true e es a (inr h) = inr h
arc_when false e es a h = inr h

pub when_arc : (b : Bool) (e : Arc) (es : List Arc) → T b → In (when b e es) e
when_arc true e es h = inl refl
when_arc false e es h = absurd h

pub when_later : (b : Bool) (e : Arc) (es : List Arc) (a : Arc) → In es a → In (when b e es) a
when_later true e es a h = inr h
when_later false e es a h = h

-- equal edges have one kind, one start and one end
module _ {e f : Edge} (same : e ≡ f) where
  pub kind-of : e.kind ≡ f.kind
  kind-of = ap (λ (x : Edge). x.kind) same

  pub from_of : e.from ≡ f.from
  from_of = ap (λ (x : Edge). x.from) same

  pub to_of : e.to ≡ f.to
  to_of = ap (λ (x : Edge). x.to) same
