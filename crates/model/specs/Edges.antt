-- STATES AND EDGES (document 01, "States and edges", first three paragraphs).
use Rattle.std.specs.Prelude.{Bool, true, false, ◌&&◌, ◌||◌, cond, List, [], ◌∷◌, ◌++◌, map, ℕ, suc, max}
use Rattle.model.specs.Lists.{each}
use Rattle.model.specs.Bits.{bit}
use Rattle.model.specs.Tree.{Alts, can_loop, can_omit, can_return, can_skip, end, last, letter, Mark, more, Repeat, Seq, Tree, union}

-- the state in which a sequence that starts in t ends, and the end of the last alternative, where p is the state before the first one's start:
-- "A letter from state i ends in i+1. A union starting in t gives its alternatives the next states in turn, each with its own start, then
-- takes one more state as its end."
abbrev mutual
  pub seq_end : Seq → ℕ → ℕ
  seq_end end t = t
  seq_end (letter c r s) t = seq_end s (suc t)
  seq_end (union m a s) t = seq_end s (suc (alts_end a t))

  pub alts_end : Alts → ℕ → ℕ
  alts_end (last s) p = seq_end s (suc p)
  alts_end (more s a) p = alts_end a (seq_end s (suc p))

-- "m-1 the accepting state, m the number of states"
abbrev pub accepting : Tree → ℕ
accepting t = seq_end t 0

abbrev pub states : Tree → ℕ
states t = suc (accepting t)

-- "The depth of the rule's own sequence is 0; alternatives of a union at depth k lie at k+1 .. d is the largest depth."
abbrev mutual
  pub depth : Tree → ℕ
  depth end = 0
  depth (letter c r s) = depth s
  depth (union m a s) = max (suc (alts_depth a)) (depth s)

  pub alts_depth : Alts → ℕ
  alts_depth (last s) = depth s
  alts_depth (more s a) = max (depth s) (alts_depth a)

-- "it can spell the empty text": a union by an alternative, or since it may be left out
abbrev mutual
  pub seq_empty : Seq → Bool
  seq_empty end = true
  seq_empty (letter c r s) = can_skip r && seq_empty s
  seq_empty (union m a s) = (can_omit m || alts_empty a) && seq_empty s

  pub alts_empty : Alts → Bool
  alts_empty (last s) = seq_empty s
  alts_empty (more s a) = seq_empty s || alts_empty a

-- THE EDGE OVER A UNION is there, by its mark and its alternatives
abbrev pub union_empty : Mark → Alts → Bool
union_empty m a = can_omit m || alts_empty a

-- each alternative's start and end, where p is the state before the first one's start
abbrev pub Way : Type 0
Way = ℕ × ℕ

abbrev pub ways : Alts → ℕ → List Way
ways (last s) p = (suc p, seq_end s (suc p)) ∷ []
ways (more s a) p = (suc p, seq_end s (suc p)) ∷ ways a (seq_end s (suc p))

abbrev pub starts_of : List Way → List ℕ
starts_of ws = map (λ a. a.0) ws

abbrev pub ends_of : List Way → List ℕ
ends_of ws = map (λ a. a.1) ws

-- a letter where it lies: its class, its repeat, its depth, the state i that it starts from;
-- a union where it lies: whether it can be empty, its depth, its start, its alternatives, its end; the return of a group with `*`: the group's depth,
-- its body's end and start
pub data Part : Type 0 where
  letter_at : (class : ℕ) (r : Repeat) (k i : ℕ) → Part
  union_at : (empty : Bool) (k start : ℕ) (alternatives : List Way) (close : ℕ) → Part
  return_at : (k end start : ℕ) → Part

-- the return of a group with `*` at depth k whose body has this end and this start
abbrev pub returns : Mark → ℕ → ℕ → ℕ → List Part
returns m k q r = cond (can_return m) (return_at k q r ∷ []) []

-- the parts of a sequence that starts in t at depth k; of the alternatives after state p of a union at depth k
abbrev mutual
  pub parts : Seq → ℕ → ℕ → List Part
  parts end t k = []
  parts (letter c r s) t k = letter_at c r k t ∷ parts s (suc t) k
  parts (union m a s) t k =
      union_at (union_empty m a) k t (ways a t) (suc (alts_end a t)) ∷ (returns m k (alts_end a t) (suc t) ++ (alts_parts a t k ++ parts s (suc (alts_end a t)) k))

  pub alts_parts : Alts → ℕ → ℕ → List Part
  alts_parts (last s) p k = parts s (suc p) (suc k)
  alts_parts (more s a) p k = parts s (suc p) (suc k) ++ alts_parts a (seq_end s (suc p)) k

pub data EdgeKind : Type 0 where
  letter_edge loop_edge : (class : ℕ) → EdgeKind
  propagate_edge scatter_edge gather_edge back_edge : EdgeKind

pub record Edge : Type 0 where
  pub kind : EdgeKind
  pub level : ℕ
  pub from : ℕ
  pub to : ℕ

abbrev pub edge : EdgeKind → ℕ → ℕ → ℕ → Edge
edge e k i j = record { kind = e; level = k; from = i; to = j }

abbrev pub when : Bool → Edge → List Edge
when b e = cond b (e ∷ []) []

-- "a letter's class from i to i+1; for `*` and `+` also a loop on i+1 with that class; for `?` and `*` a propagate edge i to i+1; for a union
-- a scatter edge from its start to each alternative's start, a gather edge from each alternative's end to its end, and, if it can spell the
-- empty text, a propagate edge from its start to its end"; so also over a group that keeps its `?`: "a union with an edge from start to end";
-- and for a group with `*` "a back edge from the body's end to its start"
abbrev pub edges_of : Part → List Edge
edges_of (letter_at c r k i) = edge (letter_edge c) k i (suc i) ∷ (when (can_loop r) (edge (loop_edge c) k (suc i) (suc i)) ++ when (can_skip r) (edge propagate_edge k i (suc i)))
edges_of (union_at empty k t ws u) = map (λ a. edge scatter_edge k t a.0) ws ++ (map (λ a. edge gather_edge k a.1 u) ws ++ when empty (edge propagate_edge k t u))
edges_of (return_at k q r) = edge back_edge k q r ∷ []

abbrev pub edges : Tree → List Edge
edges t = each edges_of (parts t 0 0)

-- a letter edge takes the byte b; a loop does; the edge is a propagate edge
abbrev pub by_letter : ℕ → EdgeKind → Bool
by_letter b (letter_edge c) = bit c b
by_letter b (loop_edge c) = false
by_letter b propagate_edge = false
by_letter b scatter_edge = false
by_letter b gather_edge = false
by_letter b back_edge = false

abbrev pub by_loop : ℕ → EdgeKind → Bool
by_loop b (letter_edge c) = false
by_loop b (loop_edge c) = bit c b
by_loop b propagate_edge = false
by_loop b scatter_edge = false
by_loop b gather_edge = false
by_loop b back_edge = false

abbrev pub is_propagate : EdgeKind → Bool
is_propagate (letter_edge c) = false
is_propagate (loop_edge c) = false
is_propagate propagate_edge = true
is_propagate scatter_edge = false
is_propagate gather_edge = false
is_propagate back_edge = false

abbrev pub is_back : EdgeKind → Bool
is_back (letter_edge c) = false
is_back (loop_edge c) = false
is_back propagate_edge = false
is_back scatter_edge = false
is_back gather_edge = false
is_back back_edge = true
