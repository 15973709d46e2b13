-- THE EDGES OF A TREE AS ARCS: a union's scatter and gather edges are one arc, a fork, so that each item of a tree gives its arcs beside those of its
-- parts. What holds for all arcs of a tree is shown item by item (`letter_whole`, `branch_whole`).
use mathlib.Core.Path.{◌≡◌}
use mathlib.Core.Logic.{◌⊎◌}
use mathlib.Core.Bool.{Bool, true, false}
use mathlib.Core.List.{List, [], ◌∷◌, ◌++◌}
use Prim.Native.Nat.{ℕ, suc}
use lib.Dec.{T}
use Rattle.model.specs.Lists.{◌∈◌, All}
use Rattle.model.specs.Bits.{bit}
use Rattle.model.specs.Tree.{Alts, can_loop, can_return, can_skip, end, last, letter, Mark, more, Repeat, Seq, union}
use Rattle.model.specs.Edges.{alts_end, ends_of, seq_end, starts_of, union_empty, Way, ways}
use Rattle.model.proofs.Laws.Lists.{all_app, all_left, all_right}

-- of what kind an arc is; a fork holds each alternative's start and end
pub data ArcKind : Type 0 where
  letter_arc loop_arc : ℕ → ArcKind
  propagate_arc : ArcKind
  fork_arc : List Way → ArcKind
  back_arc : ArcKind

pub record Arc : Type 0 where
  pub kind : ArcKind
  pub level : ℕ
  pub from : ℕ
  pub to : ℕ

abbrev pub arc : ArcKind → ℕ → ℕ → ℕ → Arc
arc w k i j = record { kind = w; level = k; from = i; to = j }

abbrev pub when : Bool → Arc → List Arc → List Arc
when true e es = e ∷ es
when false e es = es

-- the arcs of a sequence that starts in t at depth k; of the alternatives after state p of a union at depth k
abbrev mutual
  pub arcs : Seq → ℕ → ℕ → List Arc
  arcs end t k = []
  arcs (letter c r s) t k =
      arc (letter_arc c) k t (suc t) ∷ when (can_loop r) (arc (loop_arc c) k (suc t) (suc t)) (when (can_skip r) (arc propagate_arc k t (suc t)) (arcs s (suc t) k))
  arcs (union m a s) t k =
      when (union_empty m a) (arc propagate_arc k t (suc (alts_end a t)))
      (arc (fork_arc (ways a t)) k t (suc (alts_end a t))
      ∷ when (can_return m) (arc back_arc k (alts_end a t) (suc t)) (alts_arcs a t k ++ arcs s (suc (alts_end a t)) k))

  pub alts_arcs : Alts → ℕ → ℕ → List Arc
  alts_arcs (last s) p k = arcs s (suc p) (suc k)
  alts_arcs (more s a) p k = arcs s (suc p) (suc k) ++ alts_arcs a (seq_end s (suc p)) k

-- the moves from q to r along an arc from i to j: without a letter, and by the byte b
abbrev pub Still : ArcKind → ℕ → ℕ → ℕ → ℕ → Type 0
Still (letter_arc c) i j q r = ⊥
Still (loop_arc c) i j q r = ⊥
Still propagate_arc i j q r = (q ≡ i) × (r ≡ j)
Still (fork_arc xs) i j q r = ((q ≡ i) × (r ∈ starts_of xs)) ⊎ ((q ∈ ends_of xs) × (r ≡ j))
Still back_arc i j q r = (q ≡ i) × (r ≡ j)

abbrev pub Byte : ℕ → ArcKind → ℕ → ℕ → ℕ → ℕ → Type 0
Byte b (letter_arc c) i j q r = T (bit c b) × (q ≡ i) × (r ≡ j)
Byte b (loop_arc c) i j q r = T (bit c b) × (q ≡ i) × (r ≡ j)
Byte b propagate_arc i j q r = ⊥
Byte b (fork_arc xs) i j q r = ⊥
Byte b back_arc i j q r = ⊥

-- ---- what holds for all arcs, where one of them is there only if a test passes
all_when : (Q : Arc → Type 0) (b : Bool) (e : Arc) (es : List Arc) → (T b → Q e) → All Q es → All Q (when b e es)
all_when Q true e es h k = (h tt, k)
all_when Q false e es h k = k

when_head : (Q : Arc → Type 0) (b : Bool) (e : Arc) (es : List Arc) → All Q (when b e es) → T b → Q e
when_head Q true e es h x = h.0
when_head Q false e es h x = absurd x

when_tail : (Q : Arc → Type 0) (b : Bool) (e : Arc) (es : List Arc) → All Q (when b e es) → All Q es
when_tail Q true e es h = h.1
when_tail Q false e es h = h

-- ---- what holds for all arcs of a tree holds for those of its first item and of its parts, and the other way round
module _ (E : Arc → Type 0) where
  pub record Letter (c : ℕ) (r : Repeat) (s : Seq) (t k : ℕ) : Type 0 where
    pub takes : E (arc (letter_arc c) k t (suc t))
    pub loops : T (can_loop r) → E (arc (loop_arc c) k (suc t) (suc t))
    pub skips : T (can_skip r) → E (arc propagate_arc k t (suc t))
    pub rest : All E (arcs s (suc t) k)

  pub letter_parts : (c : ℕ) (r : Repeat) (s : Seq) (t k : ℕ) → All E (arcs (letter c r s) t k) → Letter c r s t k
  letter_parts c r s t k A =
      let es = arcs s (suc t) k in
      let ps = when (can_skip r) (arc propagate_arc k t (suc t)) es in
      let B = when_tail E (can_loop r) (arc (loop_arc c) k (suc t) (suc t)) ps A.1 in
      record {
        takes = A.0;
        loops = when_head E (can_loop r) (arc (loop_arc c) k (suc t) (suc t)) ps A.1;
        skips = when_head E (can_skip r) (arc propagate_arc k t (suc t)) es B;
        rest = when_tail E (can_skip r) (arc propagate_arc k t (suc t)) es B;
      }

  pub letter_whole : (c : ℕ) (r : Repeat) (s : Seq) (t k : ℕ) → Letter c r s t k → All E (arcs (letter c r s) t k)
  letter_whole c r s t k A = (
    A.takes,
    all_when E (can_loop r) (arc (loop_arc c) k (suc t) (suc t)) (when (can_skip r) (arc propagate_arc k t (suc t)) (arcs s (suc t) k)) A.loops
        (all_when E (can_skip r) (arc propagate_arc k t (suc t)) (arcs s (suc t) k) A.skips A.rest),
  )

  pub record Branch (m : Mark) (a : Alts) (s : Seq) (t k : ℕ) : Type 0 where
    pub skips : T (union_empty m a) → E (arc propagate_arc k t (suc (alts_end a t)))
    pub forks : E (arc (fork_arc (ways a t)) k t (suc (alts_end a t)))
    pub returns : T (can_return m) → E (arc back_arc k (alts_end a t) (suc t))
    pub alts : All E (alts_arcs a t k)
    pub rest : All E (arcs s (suc (alts_end a t)) k)

  pub branch_parts : (m : Mark) (a : Alts) (s : Seq) (t k : ℕ) → All E (arcs (union m a s) t k) → Branch m a s t k
  branch_parts m a s t k A =
      let u = suc (alts_end a t) in
      let back = arc back_arc k (alts_end a t) (suc t) in
      let ds = alts_arcs a t k ++ arcs s u k in
      let es = arc (fork_arc (ways a t)) k t u ∷ when (can_return m) back ds in
      let B = when_tail E (union_empty m a) (arc propagate_arc k t u) es A in
      let C = when_tail E (can_return m) back ds B.1 in
      record {
        skips = when_head E (union_empty m a) (arc propagate_arc k t u) es A;
        forks = B.0;
        returns = when_head E (can_return m) back ds B.1;
        alts = all_left E (alts_arcs a t k) (arcs s u k) C;
        rest = all_right E (alts_arcs a t k) (arcs s u k) C;
      }

  pub branch_whole : (m : Mark) (a : Alts) (s : Seq) (t k : ℕ) → Branch m a s t k → All E (arcs (union m a s) t k)
  branch_whole m a s t k A =
      let u = suc (alts_end a t) in
      let back = arc back_arc k (alts_end a t) (suc t) in
      let ds = alts_arcs a t k ++ arcs s u k in
      all_when E (union_empty m a) (arc propagate_arc k t u) (arc (fork_arc (ways a t)) k t u ∷ when (can_return m) back ds) A.skips
      (A.forks, all_when E (can_return m) back ds A.returns (all_app E (alts_arcs a t k) (arcs s u k) A.alts A.rest))
