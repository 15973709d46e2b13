-- THE WRITING OF A WELL-FORMED TREE IS A RULE WITH THAT TREE, by induction on the tree; so two well-formed trees with one writing are equal, and
-- the well-formed trees are just those of rules.
use mathlib.Core.Path.{◌≡◌, refl, subst}
use mathlib.Core.Logic.{◌↔◌}
use mathlib.Core.List.{List, [], ◌∷◌, ◌++◌, append-nil, append_assoc}
use Prim.Native.Nat.{ℕ}
use Rattle.model.specs.Bytes.{byte}
use Rattle.model.specs.Tree.{Alts, end, glue, last, letter, Mark, more, once, option, optional, plus, Repeat, Seq, star, starred, union, unmarked}
use Rattle.model.specs.Grammar.{absent, also, AltsWith, any_number, asterisk, cross, dot_class, group, grouped, IsMark, IsRule, IsSign, item, ItemWith, lone, nothing, only, plainly, query, question, rule, RuleWith, SeqWith, then}
use Rattle.model.specs.Edges.{alts_empty}
use Rattle.model.specs.Writing.{alts_by, class_with, mark_writing, repeat_writing, writing, written_by}
use Rattle.model.proofs.Laws.Bool.{is_false}
use Rattle.model.proofs.Laws.Trees.{glue_end, NonEmpty}
use Rattle.model.proofs.Reading.ClassWritten.{class_letter}
use Rattle.model.proofs.Reading.Decides.{one_tree}
use Rattle.model.proofs.Reading.WellFormed.{Good, GoodAlts, Marked, rule_well, WellFormed}

repeat_sign : (r : Repeat) → IsSign (repeat_writing r) (plainly r)
repeat_sign once = absent refl refl
repeat_sign option = question refl refl
repeat_sign star = asterisk refl refl
repeat_sign plus = cross refl refl

-- the sign of a mark
abbrev sign_of : Mark → Repeat
sign_of unmarked = once
sign_of optional = option
sign_of starred = star

mark_sign : (m : Mark) → IsMark (mark_writing m) (sign_of m)
mark_sign unmarked = nothing refl refl
mark_sign optional = query refl refl
mark_sign starred = any_number refl refl

grouped_is : (m : Mark) (a : Alts) → Marked m a → union m a end ≡ grouped a (sign_of m)
grouped_is unmarked (last s) k = absurd k
grouped_is unmarked (more s a) k = refl
grouped_is optional a k = rw (is_false (alts_empty a) k)
grouped_is starred (last s) k = refl
grouped_is starred (more s a) k = absurd k

-- with any class for the dot, in reading as in writing
module _ (dots : ℕ) where
  abbrev text : Seq → List ℕ
  text = written_by (class_with dots)

  abbrev alts_text : Alts → List ℕ
  alts_text = alts_by (class_with dots)

  -- the sequence s has the bytes w: it is empty, or in the grammar
  data Wrote (s : Seq) (w : List ℕ) : Type 0 where
    naught : s ≡ end → w ≡ [] → Wrote s w
    something : SeqWith dots w s → Wrote s w

  prepend : (u v : List ℕ) (h t : Seq) → ItemWith dots u h → Wrote t v → SeqWith dots (u ++ v) (glue h t)
  prepend u v h t d (naught p q) = rw (p, q, glue_end h, append-nil u) (item d)
  prepend u v h t d (something b) = then refl refl d b

  wrote : (s : Seq) (w : List ℕ) → NonEmpty s → Wrote s w → SeqWith dots w s
  wrote s w f (naught p q) = absurd (subst NonEmpty p f)
  wrote s w f (something d) = d

  mutual
    seq_written : (s : Seq) → Good s → Wrote s (text s)
    seq_written end g = naught refl refl
    seq_written (letter c r s) g =
        let front = lone refl refl (class_letter dots c g.0) (repeat_sign r) in
        something (subst (λ (w : List ℕ). SeqWith dots w (letter c r s)) (append_assoc (class_with dots c) (repeat_writing r) (text s))
        (prepend (class_with dots c ++ repeat_writing r) (text s) (letter c r end) s front (seq_written s g.1)))
    seq_written (union m a s) g =
        let front = group refl (grouped_is m a g.0) (alts_written a g.1) (mark_sign m) in
        something (subst (λ (w : List ℕ). SeqWith dots (byte "(" ∷ w) (union m a s)) (append_assoc (alts_text a) (byte ")" ∷ mark_writing m) (text s))
        (prepend (byte "(" ∷ (alts_text a ++ (byte ")" ∷ mark_writing m))) (text s) (union m a end) s front (seq_written s g.2)))

    alts_written : (a : Alts) → GoodAlts a → AltsWith dots (alts_text a) a
    alts_written (last s) g = only (wrote s (text s) g.0 (seq_written s g.1))
    alts_written (more s a) g = also refl (wrote s (text s) g.0 (seq_written s g.1)) (alts_written a g.2)

  pub written_with : (s : Seq) → WellFormed s → RuleWith dots (text s) s
  written_with s h = rule refl (only (wrote s (text s) h.full (seq_written s h.good)))

-- THE WRITING OF A WELL-FORMED TREE IS A RULE WITH THAT TREE
pub written : (s : Seq) → WellFormed s → IsRule (writing s) s
written = written_with dot_class

-- TWO WELL-FORMED TREES WITH ONE WRITING ARE EQUAL
pub writing_inj : (s t : Seq) → WellFormed s → WellFormed t → writing s ≡ writing t → s ≡ t
writing_inj s t h k e = one_tree (writing t) s t (rw e at (written s h)) (written t k)

-- THE WELL-FORMED TREES ARE THOSE OF RULES
pub well_formed : (s : Seq) → WellFormed s ↔ ((w : List ℕ) × IsRule w s)
well_formed s = (λ h. (writing s, written s h), λ r. rule_well r.1)
