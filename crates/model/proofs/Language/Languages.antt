-- LANGUAGES OF TEXTS READ SO FAR: the texts that end with what a letter, a sequence or the alternatives of a union spell, after a text of some other
-- language. A text read so far is a list of bytes with the last byte first, so that one more byte is one more element.
use mathlib.Core.Path.{◌≡◌, refl}
use mathlib.Core.Logic.{◌⊎◌, inl, inr}
use mathlib.Core.Bool.{Bool, ◌||◌}
use mathlib.Core.List.{List, [], ◌∷◌, reverse_aux}
use Prim.Native.Nat.{ℕ, suc, ◌≤◌, ◌<◌}
use native.Mathlib.Nat.{le_refl}
use native.Mathlib.Omega.{arith}
use lib.Dec.{T}
use Rattle.model.specs.Bits.{bit}
use Rattle.model.specs.Lists.{◌∈◌}
use Rattle.model.specs.Tree.{Alts, can_loop, can_omit, can_skip, end, last, letter, Mark, more, once, option, optional, plus, Repeat, Seq, star, starred, union, unmarked}
use Rattle.model.specs.Edges.{alts_empty, alts_end, ends_of, seq_empty, seq_end, starts_of, states, union_empty, ways}
use Rattle.model.specs.Ends.{AltsSpell, never, Repeated}
use Rattle.model.proofs.Laws.Bool.{and_split, or_split}
use Rattle.model.proofs.Laws.Trees.{NonEmpty}

abbrev pub Language : Type 1
Language = List ℕ → Type 0

-- every text: a stretch may start at any place
abbrev pub Any : Language
Any w = Unit

-- a text of P, and then one byte of the class c; one or more
abbrev pub One : ℕ → Language → Language
One c P [] = ⊥
One c P (b ∷ w) = T (bit c b) × P w

abbrev pub Many : ℕ → Language → Language
Many c P [] = ⊥
Many c P (b ∷ w) = T (bit c b) × (P w ⊎ Many c P w)

abbrev pub after_letter : ℕ → Repeat → Language → Language
after_letter c once P w = One c P w
after_letter c option P w = P w ⊎ One c P w
after_letter c star P w = P w ⊎ Many c P w
after_letter c plus P w = Many c P w

-- the bytes v read after those of u; a text of P and then one of Q
abbrev pub feed : List ℕ → List ℕ → List ℕ
feed u v = reverse_aux v u

abbrev pub Then : Language → (List ℕ → Type 0) → Language
Then P Q w = (u : List ℕ) × (v : List ℕ) × (w ≡ feed u v) × P u × Q v

-- from the start of a union that comes after P into its alternatives, which spell S: with `*` also after some of these texts
abbrev pub into : Mark → (List ℕ → Type 0) → Language → Language
into unmarked S P = P
into optional S P = P
into starred S P = Then P (Repeated S)

-- and at its end, where Q are the texts after the alternatives
abbrev pub after_mark : Mark → (List ℕ → Type 0) → Language → Language → Language
after_mark unmarked S P Q = Q
after_mark optional S P Q = λ w. P w ⊎ Q w
after_mark starred S P Q = Then P (Repeated S)

-- a text of P, and then one that a sequence spells, or one of the alternatives
abbrev mutual
  pub after : Seq → Language → Language
  after end P = P
  after (letter c r s) P = after s (after_letter c r P)
  after (union m a s) P = after s (after_mark m (AltsSpell a) P (after_alts a P))

  pub after_alts : Alts → Language → Language
  after_alts (last s) P = after s P
  after_alts (more s a) P = λ w. after s P w ⊎ after_alts a P w

abbrev pub after_union : Mark → Alts → Language → Language
after_union m a P = after_mark m (AltsSpell a) P (after_alts a P)

abbrev pub within : Mark → Alts → Language → Language
within m a P = into m (AltsSpell a) P

-- ---- the end of a sequence lies at or past its start, that of alternatives past the state before them
mutual
  pub seq_end_le : (s : Seq) (t : ℕ) → t ≤ seq_end s t
  seq_end_le end t = le_refl t
  seq_end_le (letter c r s) t = omega (arith, seq_end_le s (suc t))
  seq_end_le (union m a s) t = omega (arith, alts_end_lt a t, seq_end_le s (suc (alts_end a t)))

  pub alts_end_lt : (a : Alts) (p : ℕ) → p < alts_end a p
  alts_end_lt (last s) p = seq_end_le s (suc p)
  alts_end_lt (more s a) p = omega (arith, seq_end_le s (suc p), alts_end_lt a (seq_end s (suc p)))

-- the alternatives of a union start and end past its start, and at or below the last one's end
pub starts_among : (a : Alts) (p x : ℕ) → x ∈ starts_of (ways a p) → (p < x) × (x ≤ alts_end a p)
starts_among (last s) p x (inl e) = omega (arith, seq_end_le s (suc p))
starts_among (last s) p x (inr h) = absurd h
starts_among (more s a) p x (inl e) = omega (arith, seq_end_le s (suc p), alts_end_lt a (seq_end s (suc p)))
starts_among (more s a) p x (inr h) = omega (arith, seq_end_le s (suc p), starts_among a (seq_end s (suc p)) x h)

pub ends_among : (a : Alts) (p x : ℕ) → x ∈ ends_of (ways a p) → (p < x) × (x ≤ alts_end a p)
ends_among (last s) p x (inl e) = omega (arith, seq_end_le s (suc p))
ends_among (last s) p x (inr h) = absurd h
ends_among (more s a) p x (inl e) = omega (arith, seq_end_le s (suc p), alts_end_lt a (seq_end s (suc p)))
ends_among (more s a) p x (inr h) = omega (arith, seq_end_le s (suc p), ends_among a (seq_end s (suc p)) x h)

-- a sequence with an item has at least two states
pub two_states : (s : Seq) → NonEmpty s → 2 ≤ states s
two_states end h = absurd h
two_states (letter c r s) h = omega (arith, seq_end_le s 1)
two_states (union m a s) h = omega (arith, alts_end_lt a 0, seq_end_le s (suc (alts_end a 0)))

-- ---- what can spell the empty text keeps a text; a byte of the class goes through a letter, and more go round its loop
pub skip_letter : (c : ℕ) (r : Repeat) (P : Language) (w : List ℕ) → T (can_skip r) → P w → after_letter c r P w
skip_letter c once P w n h = absurd n
skip_letter c option P w n h = inl h
skip_letter c star P w n h = inl h
skip_letter c plus P w n h = absurd n

pub enter_union : (m : Mark) (S : List ℕ → Type 0) (P : Language) (w : List ℕ) → P w → into m S P w
enter_union unmarked S P w h = h
enter_union optional S P w h = h
enter_union starred S P w h = (w, [], refl, h, never refl)

skip_union : (m : Mark) (e : Bool) (S : List ℕ → Type 0) (P Q : Language) (w : List ℕ) → (T e → Q w) → T (can_omit m || e) → P w → after_mark m S P Q w
skip_union unmarked e S P Q w f n h = f n
skip_union optional e S P Q w f n h = inl h
skip_union starred e S P Q w f n h = (w, [], refl, h, never refl)

mutual
  empty-in : (s : Seq) (P : Language) (w : List ℕ) → T (seq_empty s) → P w → after s P w
  empty-in end P w n h = h
  empty-in (letter c r s) P w n h = let b = and_split (can_skip r) (seq_empty s) n in empty-in s (after_letter c r P) w b.1 (skip_letter c r P w b.0 h)
  empty-in (union m a s) P w n h =
      let b = and_split (union_empty m a) (seq_empty s) n in
      empty-in s (after_union m a P) w b.1 (skip_union m (alts_empty a) (AltsSpell a) P (after_alts a P) w (λ x. alts_empty_in a P w x h) b.0 h)

  alts_empty_in : (a : Alts) (P : Language) (w : List ℕ) → T (alts_empty a) → P w → after_alts a P w
  alts_empty_in (last s) P w n h = empty-in s P w n h
  alts_empty_in (more s a) P w n h = elim (or_split (seq_empty s) (alts_empty a) n) [ inl x ↦ inl (empty-in s P w x h) | inr x ↦ inr (alts_empty_in a P w x h) ]

pub union_empty_in : (m : Mark) (a : Alts) (P : Language) (w : List ℕ) → T (union_empty m a) → P w → after_union m a P w
union_empty_in m a P w n h = skip_union m (alts_empty a) (AltsSpell a) P (after_alts a P) w (λ x. alts_empty_in a P w x h) n h

pub take_in : (c : ℕ) (r : Repeat) (P : Language) (b : ℕ) (w : List ℕ) → T (bit c b) → P w → after_letter c r P (b ∷ w)
take_in c once P b w x h = (x, h)
take_in c option P b w x h = inr (x, h)
take_in c star P b w x h = inr (x, inl h)
take_in c plus P b w x h = (x, inl h)

pub loop_in : (c : ℕ) (r : Repeat) (P : Language) (b : ℕ) (w : List ℕ) → T (can_loop r) → T (bit c b) → after_letter c r P w → after_letter c r P (b ∷ w)
loop_in c once P b w n x h = absurd n
loop_in c option P b w n x h = absurd n
loop_in c star P b w n x h = inr (x, h)
loop_in c plus P b w n x h = (x, inr h)
