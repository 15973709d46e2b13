-- WHAT CAN SPELL THE EMPTY TEXT: the edge over a union ("if it can spell the empty text, a propagate edge from its start to its end") is there exactly
-- if the union spells the empty text. A text is empty exactly if the two that it is made of are.
use mathlib.Core.Path.{refl, sym, ap, subst}
use mathlib.Core.Logic.{inl, inr, ◌↔◌}
use mathlib.Core.Bool.{Bool, ◌||◌}
use mathlib.Core.List.{List, [], append-eq-nil_iff}
use Prim.Native.Nat.{ℕ}
use native.Mathlib.Omega.{arith}
use lib.Dec.{T}
use lib.ListN.{length}
use Rattle.model.specs.Tree.{Alts, can_omit, can_skip, end, last, letter, Mark, more, once, option, optional, plus, Repeat, Seq, star, starred, union, unmarked}
use Rattle.model.specs.Edges.{alts_empty, seq_empty, union_empty}
use Rattle.model.specs.Ends.{AltsSpell, GroupSpells, LetterSpells, never, Spells}
use Rattle.model.proofs.Laws.Bool.{and_both, and_split, or_left, or_right, or_split}

-- a letter spells the empty text exactly if it has `?` or `*`
letter_empty : (c : ℕ) (r : Repeat) → T (can_skip r) ↔ LetterSpells c r []
letter_empty c once = (λ h. absurd h, λ h. omega (arith, ap length h.1))
letter_empty c option = (λ h. inl refl, λ h. tt)
letter_empty c star = (λ h. tt, λ h. tt)
letter_empty c plus = (λ h. absurd h, λ h. omega (arith, ap length h.2))

-- a union by its mark, and by its alternatives
group_spelled : (m : Mark) (e : Bool) (P : List ℕ → Type 0) → (T e → P []) → T (can_omit m || e) → GroupSpells m P []
group_spelled unmarked e P f h = f h
group_spelled optional e P f h = inl refl
group_spelled starred e P f h = never refl

spelled_group : (m : Mark) (e : Bool) (P : List ℕ → Type 0) → (P [] → T e) → GroupSpells m P [] → T (can_omit m || e)
spelled_group unmarked e P f h = f h
spelled_group optional e P f h = tt
spelled_group starred e P f h = tt

mutual
  empty_spelled : (s : Seq) → T (seq_empty s) → Spells s []
  empty_spelled end h = refl
  empty_spelled (letter c r s) h = let b = and_split (can_skip r) (seq_empty s) h in ([], [], refl, (letter_empty c r).0 b.0, empty_spelled s b.1)
  empty_spelled (union m a s) h = let b = and_split (union_empty m a) (seq_empty s) h in ([], [], refl, group_spelled m (alts_empty a) (AltsSpell a) (λ k. alts_spelled a k) b.0, empty_spelled s b.1)

  alts_spelled : (a : Alts) → T (alts_empty a) → AltsSpell a []
  alts_spelled (last s) h = empty_spelled s h
  alts_spelled (more s a) h = elim (or_split (seq_empty s) (alts_empty a) h) [ inl k ↦ inl (empty_spelled s k) | inr k ↦ inr (alts_spelled a k) ]

mutual
  spelled_empty : (s : Seq) → Spells s [] → T (seq_empty s)
  spelled_empty end h = tt
  spelled_empty (letter c r s) h =
      let e = append-eq-nil_iff.0 (sym h.2) in
      and_both (can_skip r) (seq_empty s) ((letter_empty c r).1 (subst (LetterSpells c r) e.0 h.3)) (spelled_empty s (subst (Spells s) e.1 h.4))
  spelled_empty (union m a s) h =
      let e = append-eq-nil_iff.0 (sym h.2) in
      and_both (union_empty m a) (seq_empty s) (spelled_group m (alts_empty a) (AltsSpell a) (λ k. spelled_alts a k) (subst (GroupSpells m (AltsSpell a)) e.0 h.3))
      (spelled_empty s (subst (Spells s) e.1 h.4))

  spelled_alts : (a : Alts) → AltsSpell a [] → T (alts_empty a)
  spelled_alts (last s) h = spelled_empty s h
  spelled_alts (more s a) (inl h) = or_left (seq_empty s) (alts_empty a) (spelled_empty s h)
  spelled_alts (more s a) (inr h) = or_right (seq_empty s) (alts_empty a) (spelled_alts a h)

-- THE THEOREM, for a sequence and for a union
pub empty_is : (s : Seq) → T (seq_empty s) ↔ Spells s []
empty_is s = (empty_spelled s, spelled_empty s)

pub union_empty_is : (m : Mark) (a : Alts) → T (union_empty m a) ↔ GroupSpells m (AltsSpell a) []
union_empty_is m a = (group_spelled m (alts_empty a) (AltsSpell a) (alts_spelled a), spelled_group m (alts_empty a) (AltsSpell a) (spelled_alts a))
