-- THE PLAIN WRITING OF A TREE IS ITS TOKENS WRITTEN OUT ONE BY ONE, whatever tokens follow them: each close with its union's own mark, since the scan
-- knows at a close whether an alternative can be empty and so whether the edge that it shows is a `?`.
use mathlib.Core.Path.{◌≡◌, refl, sym, ap, ◌∙◌}
use mathlib.Core.Bool.{Bool, ◌||◌, or_assoc}
use mathlib.Core.List.{List, [], ◌∷◌, ◌++◌, append_assoc, append-nil}
use Prim.Native.Nat.{ℕ, suc}
use lib.ListN.{length}
use Rattle.model.specs.Bytes.{byte, bytes}
use Rattle.model.specs.Tree.{Alts, end, last, letter, Mark, more, Seq, Tree, union}
use Rattle.model.specs.Edges.{alts_empty, seq_empty, seq_end}
use Rattle.model.specs.Writing.{alts_writing, class_writing, mark_writing, repeat_writing, writing}
use Rattle.model.specs.Models.LayOut.{begin, Frame, next_alternative, opened, owns, Scan, step}
use Rattle.model.specs.Models.Tokens.{a_bar, a_close, a_letter, alts_tokens, an_open, kept, several, shown, Token, tokens}
use Rattle.model.proofs.Image.Scan.{after, after_end, after-letter, after-union, after_union, alternative_at}
use Rattle.model.proofs.Image.Unions.{GoodAlts, GoodUnions, kept_shown}

abbrev pub token_writing : Token → List ℕ
token_writing (a_letter c r) = class_writing c ++ repeat_writing r
token_writing an_open = bytes "("
token_writing a_bar = bytes "|"
token_writing (a_close m) = byte ")" ∷ mark_writing m

abbrev pub tokens_writing : List Token → List ℕ
tokens_writing [] = []
tokens_writing (x ∷ xs) = token_writing x ++ tokens_writing xs

-- ---- tokens with their unions' own marks: as many, and written out
pub length_owns : (l : List Token) (q : Scan) → length (owns l q) ≡ length l
length_owns [] q = refl
length_owns (y ∷ ys) q = ap suc (length_owns ys (step y q))

abbrev own_writing : List Token → Scan → List ℕ
own_writing l q = tokens_writing (owns l q)

-- y is w and then x, also after u and v
onto : (u v w x y : List ℕ) → y ≡ w ++ x → u ++ (v ++ y) ≡ (u ++ (v ++ w)) ++ x
onto u v w x y e = rw e (simp append_assoc)

mutual
  seq_written_out : (s : Seq) (r : List Token) (q : Scan) → GoodUnions s → own_writing (tokens s r) q ≡ writing s ++ own_writing r (after s q)
  seq_written_out end r q g = ap (own_writing r) (sym (after_end q))
  seq_written_out (letter c p s) r q g =
      append_assoc (class_writing c) (repeat_writing p) (own_writing (tokens s r) (step (a_letter c p) q))
      ∙ onto (class_writing c) (repeat_writing p) (writing s) (own_writing r (after (letter c p s) q)) (own_writing (tokens s r) (step (a_letter c p) q))
      (seq_written_out s r (step (a_letter c p) q) g ∙ ap (λ (z : Scan). writing s ++ own_writing r z) (after-letter c p s q))
  seq_written_out (union m a s) r q g =
      ap (λ (w : List ℕ). byte "(" ∷ w)
      (alts_written_out a n (tokens s r) q.position (opened q) q.stack g.1
      ∙ ap (λ (k : Mark). alts_writing a ++ (byte ")" ∷ (mark_writing k ++ own_writing (tokens s r) z))) (kept_shown m (several a) (alts_empty a) g.0)
      ∙ onto (alts_writing a) (byte ")" ∷ mark_writing m) (writing s) (own_writing r (after (union m a s) q)) (own_writing (tokens s r) z)
      (seq_written_out s r z g.2 ∙ ap (λ (z : Scan). writing s ++ own_writing r z) (after-union m a s q))
      ∙ simp append_assoc)
    where
      n : Mark
      n = shown m (alts_empty a)

      z : Scan
      z = after_union a n q.position (opened q) q.stack

  alts_written_out : (a : Alts) (m : Mark) (r : List Token) (p : ℕ) (f : Frame) (st : List Frame) → GoodAlts a
      → own_writing (alts_tokens a m r) (alternative_at p f st)
      ≡ alts_writing a ++ (byte ")" ∷ (mark_writing (kept m (f.empty_before || alts_empty a)) ++ own_writing r (after_union a m p f st)))
  alts_written_out (last s) m r p f st g = seq_written_out s (a_close m ∷ r) (alternative_at p f st) g.1
  alts_written_out (more s a) m r p f st g =
      seq_written_out s (a_bar ∷ alts_tokens a m r) (alternative_at p f st) g.1
      ∙ onto (writing s) (bytes "|") (alts_writing a) rest (own_writing (alts_tokens a m r) (alternative_at z next st))
      (alts_written_out a m r z next st g.2
      ∙ ap (λ (e : Bool). alts_writing a ++ (byte ")" ∷ (mark_writing (kept m e) ++ own_writing r (after_union (more s a) m p f st))))
      (or_assoc f.empty_before (seq_empty s) (alts_empty a)))
    where
      z : ℕ
      z = seq_end s (suc p)

      next : Frame
      next = next_alternative f z (seq_empty s)

      rest : List ℕ
      rest = byte ")" ∷ (mark_writing (kept m (f.empty_before || alts_empty (more s a))) ++ own_writing r (after_union (more s a) m p f st))

-- THE WRITING OF A TREE IS ITS TOKENS WRITTEN OUT
pub tokens-writing : (t : Tree) → GoodUnions t → tokens_writing (owns (tokens t []) begin) ≡ writing t
tokens-writing t g = seq_written_out t [] begin g ∙ append-nil (writing t)
