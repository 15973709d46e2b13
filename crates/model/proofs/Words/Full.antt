-- NO ALTERNATIVE IS EMPTY (document 01: "No sequence is empty"), so a union's last alternative ends past its start; a group with `*` has one body;
-- and between which states the starts and the ends of a union's alternatives lie.
use mathlib.Core.Path.{◌≡◌, refl}
use mathlib.Core.Logic.{inl, inr}
use mathlib.Core.Bool.{false}
use mathlib.Core.List.{◌∷◌}
use Prim.Native.Nat.{ℕ, suc, ◌≤◌, ◌<◌}
use native.Mathlib.Nat.{le_refl}
use native.Mathlib.Omega.{arith}
use lib.Dec.{T, eqb, eqb→eq}
use Rattle.model.specs.Lists.{◌∈◌, within}
use Rattle.model.specs.Tree.{Alts, end, last, letter, Mark, more, optional, Seq, starred, union, unmarked}
use Rattle.model.specs.Edges.{alts_end, ends_of, seq_end, starts_of, ways}
use Rattle.model.specs.Image.{first_end, last_start}
use Rattle.model.proofs.Language.Languages.{alts_end_lt, seq_end_le}
use Rattle.model.proofs.Laws.Bool.{or_split}
use Rattle.model.proofs.Laws.Trees.{NonEmpty}

-- a group with `*` has "the one body"
abbrev pub Single : Mark → Alts → Type 0
Single unmarked a = Unit
Single optional a = Unit
Single starred (last s) = Unit
Single starred (more s a) = ⊥

-- the alternatives of every union of the tree have an item
abbrev mutual
  pub Full : Seq → Type 0
  Full end = Unit
  Full (letter c r s) = Full s
  Full (union m a s) = FullA a × Full s × Single m a

  pub FullA : Alts → Type 0
  FullA (last s) = NonEmpty s × Full s
  FullA (more s a) = NonEmpty s × Full s × FullA a

non_empty : (s : Seq) (t : ℕ) → NonEmpty s → t < seq_end s t
non_empty end t h = absurd h
non_empty (letter c r s) t h = seq_end_le s (suc t)
non_empty (union m a s) t h = omega (arith, alts_end_lt a t, seq_end_le s (suc (alts_end a t)))

-- ---- the starts of the alternatives after state p lie past p, the last one of them highest and, where none is empty, before the last end
pub last_of : (a : Alts) (p z : ℕ) → last_start ((suc p, z) ∷ ways a z) ≡ last_start (ways a z)
last_of (last s) p z = refl
last_of (more s a) p z = refl

last_past : (a : Alts) (p : ℕ) → p < last_start (ways a p)
last_past (last s) p = le_refl (suc p)
last_past (more s a) p = let z = seq_end s (suc p) in omega (arith, seq_end_le s (suc p), last_past a z, last_of a p z)

pub last_in : (a : Alts) (p : ℕ) → FullA a → (p < last_start (ways a p)) × (last_start (ways a p) < alts_end a p)
last_in (last s) p F = (le_refl (suc p), non_empty s (suc p) F.0)
last_in (more s a) p F = let z = seq_end s (suc p) in omega (arith, seq_end_le s (suc p), last_in a z F.2, last_of a p z)

pub starts_between : (a : Alts) (p x : ℕ) → T (within x (starts_of (ways a p))) → (p < x) × (x ≤ last_start (ways a p))
starts_between (last s) p x h = elim (or_split (eqb x (suc p)) false h) [ inl e ↦ omega (arith, eqb→eq x (suc p) e) | inr e ↦ absurd e ]
starts_between (more s a) p x h =
    let z = seq_end s (suc p) in
    elim (or_split (eqb x (suc p)) (within x (starts_of (ways a z))) h) [
      | inl e ↦ omega (arith, eqb→eq x (suc p) e, last_of a p z, last_past a z, seq_end_le s (suc p))
      | inr e ↦ omega (arith, starts_between a z x e, last_of a p z, seq_end_le s (suc p))
    ]

-- ---- the first start and the last end are among them
pub first_start : (a : Alts) (p : ℕ) → suc p ∈ starts_of (ways a p)
first_start (last s) p = inl refl
first_start (more s a) p = inl refl

pub last_end : (a : Alts) (p : ℕ) → alts_end a p ∈ ends_of (ways a p)
last_end (last s) p = inl refl
last_end (more s a) p = inr (last_end a (seq_end s (suc p)))

-- ---- the ends of the alternatives after state p lie past p, the first one of them lowest, the last one highest
pub first_in : (a : Alts) (p : ℕ) → (p < first_end (ways a p)) × (first_end (ways a p) ≤ alts_end a p)
first_in (last s) p = omega (arith, seq_end_le s (suc p))
first_in (more s a) p = omega (arith, seq_end_le s (suc p), alts_end_lt a (seq_end s (suc p)))

pub ends_between : (a : Alts) (p x : ℕ) → T (within x (ends_of (ways a p))) → (first_end (ways a p) ≤ x) × (x ≤ alts_end a p)
ends_between (last s) p x h = let z = seq_end s (suc p) in elim (or_split (eqb x z) false h) [ inl e ↦ omega (arith, eqb→eq x z e) | inr e ↦ absurd e ]
ends_between (more s a) p x h =
    let z = seq_end s (suc p) in
    elim (or_split (eqb x z) (within x (ends_of (ways a z))) h) [
      | inl e ↦ omega (arith, eqb→eq x z e, alts_end_lt a z)
      | inr e ↦ omega (arith, ends_between a z x e, first_in a z)
    ]
