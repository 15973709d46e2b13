-- GOOD UNIONS, which have the mark that the grammar leaves them: what their close shows and their own mark determine each other, and are what the
-- scan asks of a close.
use mathlib.Core.Path.{◌≡◌, refl, sym, ap, ◌∙◌, subst}
use mathlib.Core.Bool.{Bool, true, false, not, ◌||◌, or-false}
use lib.Dec.{T}
use Rattle.model.specs.Tree.{Alts, can_omit, can_return, end, last, letter, Mark, more, optional, Seq, starred, union, unmarked}
use Rattle.model.specs.Models.LayOut.{fitting}
use Rattle.model.specs.Models.Tokens.{kept, shown}
use Rattle.model.proofs.Laws.Bool.{and_both, and_split, or_left, or_right}
use Rattle.model.proofs.Laws.Trees.{NonEmpty}
use Rattle.model.proofs.Reading.WellFormed.{Marked, marking}
use Rattle.model.proofs.Words.Full.{Full, FullA, Single}

-- every union has its mark, and no alternative is empty
abbrev mutual
  pub GoodUnions : Seq → Type 0
  GoodUnions end = Unit
  GoodUnions (letter c r s) = GoodUnions s
  GoodUnions (union m a s) = Marked m a × GoodAlts a × GoodUnions s

  pub GoodAlts : Alts → Type 0
  GoodAlts (last s) = NonEmpty s × GoodUnions s
  GoodAlts (more s a) = NonEmpty s × GoodUnions s × GoodAlts a

one_body : (m : Mark) (a : Alts) → Marked m a → Single m a
one_body unmarked a h = tt
one_body optional a h = tt
one_body starred (last s) h = tt
one_body starred (more s a) h = absurd h

mutual
  pub good_full : (s : Seq) → GoodUnions s → Full s
  good_full end g = tt
  good_full (letter c r s) g = good_full s g
  good_full (union m a s) g = (alts_full a g.1, good_full s g.2, one_body m a g.0)

  alts_full : (a : Alts) → GoodAlts a → FullA a
  alts_full (last s) g = (g.0, good_full s g.1)
  alts_full (more s a) g = (g.0, good_full s g.1, alts_full a g.2)

-- ---- a union's own mark and what its close shows, where n says whether it has several alternatives and e whether one of them can be empty
pub shown_empty : (m : Mark) (e : Bool) → can_omit (shown m e) ≡ (can_omit m || e)
shown_empty unmarked true = refl
shown_empty unmarked false = refl
shown_empty optional e = refl
shown_empty starred e = refl

pub shown_returns : (m : Mark) (e : Bool) → can_return (shown m e) ≡ can_return m
shown_returns unmarked true = refl
shown_returns unmarked false = refl
shown_returns optional e = refl
shown_returns starred e = refl

pub kept_shown : (m : Mark) (n e : Bool) → T (marking m n e) → kept (shown m e) e ≡ m
kept_shown unmarked n true h = refl
kept_shown unmarked n false h = refl
kept_shown optional n true h = absurd h
kept_shown optional n false h = refl
kept_shown starred n e h = refl

pub shown_fits : (m : Mark) (n e : Bool) → T (marking m n e) → T (fitting (shown m e) n e)
shown_fits unmarked n true h = or_left n false h
shown_fits unmarked n false h = and_both n true h tt
shown_fits optional n e h = or_right n (not e) h
shown_fits starred n e h = h

-- and back, where what is shown fits
pub kept_marks : (m : Mark) (n e : Bool) → T (fitting m n e) → T (marking (kept m e) n e)
kept_marks unmarked n e h = (and_split n (not e) h).0
kept_marks optional n true h = subst T (or-false n) h
kept_marks optional n false h = tt
kept_marks starred n e h = h

pub shown_kept : (m : Mark) (n e : Bool) → T (fitting m n e) → shown (kept m e) e ≡ m
shown_kept unmarked n true h = absurd (and_split n false h).1
shown_kept unmarked n false h = refl
shown_kept optional n true h = refl
shown_kept optional n false h = refl
shown_kept starred n e h = refl

pub kept_empty : (m : Mark) (n e : Bool) → T (fitting m n e) → can_omit m ≡ (can_omit (kept m e) || e)
kept_empty m n e h = ap can_omit (sym (shown_kept m n e h)) ∙ shown_empty (kept m e) e
