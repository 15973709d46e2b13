-- What lay out marks for the tokens of a tree is what some arc of the tree marks, since their strokes are the same: by induction on the tree, with the
-- scan carried along.
use mathlib.Core.Path.{◌≡◌, sym, ap, ap₂, ◌∙◌}
use mathlib.Core.Bool.{Bool, ◌&&◌, ◌||◌, cond, or-false, or_assoc}
use mathlib.Core.List.{List, [], ◌∷◌, ◌++◌}
use Prim.Native.Nat.{ℕ, suc}
use lib.ListN.{length}
use Rattle.model.specs.Lists.{any}
use Rattle.model.specs.Tree.{Alts, can_omit, can_return, end, last, letter, Mark, more, Seq, union}
use Rattle.model.specs.Edges.{alts_empty, alts_end, seq_empty, seq_end, union_empty}
use Rattle.model.specs.Models.LayOut.{back_strokes, bar_strokes, begin, end_strokes, Frame, lay_out, mark, marks, next_alternative, opened, open_strokes, propagate_strokes, Scan, step, Stroke, Plane}
use Rattle.model.specs.Models.Tokens.{a_bar, a_close, a_letter, alts_tokens, shown, Token, tokens}
use Rattle.model.proofs.Image.ArcTests.{any_letter, any_more, any_union, letter_test}
use Rattle.model.proofs.Image.Marks.{any_if, letter-strokes, on, passes, passes_on, tail_test, union_strokes}
use Rattle.model.proofs.Image.Scan.{after, after_end, after-letter, after-union, after_union, alternative_at}
use Rattle.model.proofs.Image.Unions.{shown_empty, shown_returns}
use Rattle.model.proofs.Language.Arcs.{alts_arcs, Arc, arcs}
use Rattle.model.proofs.Laws.Bool.{or_left_comm}
use Rattle.model.proofs.Laws.Each.{any_same}
use Rattle.model.proofs.Laws.Lists.{any_app}

module _ (w : Plane) (k x : ℕ) where
  -- some stroke, and some arc, marks the place
  abbrev some : List Stroke → Bool
  some ss = any (marks w k x) ss

  abbrev marked : List Arc → Bool
  marked es = any (passes (marks w k x)) es

  abbrev laid_from : List Token → Scan → Bool
  laid_from l q = lay_out l q w k x

  mutual
    sets : (s : Seq) (rest : List Token) (q : Scan)
        → laid_from (tokens s rest) q ≡ (marked (arcs s q.position (length q.stack)) || laid_from rest (after s q))
    sets end rest q = ap (laid_from rest) (sym (after_end q))
    sets (letter c r s) rest q =
        ap₂ ◌||◌ (letter-strokes (marks w k x) r c t d) (sets s rest (step (a_letter c r) q))
        ∙ sym (or_assoc (letter_test (passes (marks w k x)) c r d t) (marked (arcs s (suc t) d)) (laid_from rest (after s (step (a_letter c r) q))))
        ∙ ap₂ (λ (v : Bool) (z : Scan). v || laid_from rest z) (sym (any_letter (passes (marks w k x)) c r s t d)) (after-letter c r s q)
      where
        t : ℕ
        t = q.position

        d : ℕ
        d = length q.stack
    sets (union m a s) rest q =
        ap (λ (v : Bool). O || v)
        (sets_alts a n (tokens s rest) t (opened q) q.stack
        ∙ (λ i. (I || (M || ((shown_empty m (alts_empty a) i && some (propagate_strokes d t u)) || (shown_returns m (alts_empty a) i && some (back_strokes d (alts_end a t) (suc t))))))
        || sets s rest (after_union a n t (opened q) q.stack) i))
        ∙ go O I M P R F (laid_from rest (after s (after_union a n t (opened q) q.stack)))
        ∙ ap₂ (λ (v : Bool) (z : Scan). ((P || v) || (R || (I || F))) || laid_from rest z) (union_strokes (marks w k x) d a q) (after-union m a s q)
        ∙ ap (λ (v : Bool). v || laid_from rest (after (union m a s) q)) (sym (any_union (passes (marks w k x)) m a s t d))
      where
        t : ℕ
        t = q.position

        d : ℕ
        d = length q.stack

        u : ℕ
        u = suc (alts_end a t)

        n : Mark
        n = shown m (alts_empty a)

        O : Bool
        O = some (open_strokes t d)

        I : Bool
        I = marked (alts_arcs a t d)

        M : Bool
        M = tail_test (marks w k x) a t d (opened q)

        P : Bool
        P = union_empty m a && some (propagate_strokes d t u)

        R : Bool
        R = can_return m && some (back_strokes d (alts_end a t) (suc t))

        F : Bool
        F = marked (arcs s u d)

        go : (o i m p b f r : Bool) → (o || ((i || (m || (p || b))) || (f || r))) ≡ (((p || (o || m)) || (b || (i || f))) || r)
        go o i m p b f r = simp (or_assoc, or_left_comm)

    -- the alternatives after state p of an open union: their arcs, the union's bars and close, its propagate edge and its back edge
    sets_alts : (a : Alts) (m : Mark) (rest : List Token) (p : ℕ) (f : Frame) (st : List Frame) → laid_from (alts_tokens a m rest) (alternative_at p f st)
        ≡ ((marked (alts_arcs a p (length st))
        || (tail_test (marks w k x) a p (length st) f
        || ((can_omit m && some (propagate_strokes (length st) f.start (suc (alts_end a p)))) || (can_return m && some (back_strokes (length st) (alts_end a p) (suc f.start))))))
        || laid_from rest (after_union a m p f st))
    sets_alts (last s) m rest p f st =
        sets s (a_close m ∷ rest) (alternative_at p f st)
        ∙ sym (or_assoc H (mark (a_close m) (after s (alternative_at p f st)) w k x) (laid_from rest (after_union (last s) m p f st)))
        ∙ ap (λ (v : Bool). (H || v) || laid_from rest (after_union (last s) m p f st))
        (any_app (marks w k x) (end_strokes f z d) (cond (can_omit m) over [] ++ cond (can_return m) back [])
        ∙ ap (λ (v : Bool). some (end_strokes f z d) || v)
        (any_app (marks w k x) (cond (can_omit m) over []) (cond (can_return m) back []) ∙ ap₂ ◌||◌ (any_if (marks w k x) (can_omit m) over) (any_if (marks w k x) (can_return m) back)))
      where
        d : ℕ
        d = length st

        z : ℕ
        z = seq_end s (suc p)

        H : Bool
        H = marked (arcs s (suc p) (suc d))

        over : List Stroke
        over = propagate_strokes d f.start (suc z)

        back : List Stroke
        back = back_strokes d z (suc f.start)
    sets_alts (more s a) m rest p f st =
        sets s (a_bar ∷ alts_tokens a m rest) (alternative_at p f st)
        ∙ ap (λ (v : Bool). H || (B || v)) (sets_alts a m rest z g st)
        ∙ go H B I M P R
        ∙ ap (λ (v : Bool). (v || ((B || M) || P)) || R) (sym (any_more (passes (marks w k x)) s a p d))
      where
        d : ℕ
        d = length st

        z : ℕ
        z = seq_end s (suc p)

        g : Frame
        g = next_alternative f z (seq_empty s)

        H : Bool
        H = marked (arcs s (suc p) (suc d))

        B : Bool
        B = some (bar_strokes z d)

        I : Bool
        I = marked (alts_arcs a z d)

        M : Bool
        M = tail_test (marks w k x) a z d g

        P : Bool
        P = (can_omit m && some (propagate_strokes d f.start (suc (alts_end a z)))) || (can_return m && some (back_strokes d (alts_end a z) (suc f.start)))

        R : Bool
        R = laid_from rest (after_union (more s a) m p f st)

        go : (h b i m p r : Bool) → (h || (b || ((i || (m || p)) || r))) ≡ (((h || i) || ((b || m) || p)) || r)
        go h b i m p r = simp (or_assoc, or_left_comm)

-- THE THEOREM
pub lay_out_is : (w : Plane) (k x : ℕ) (s : Seq) → lay_out (tokens s []) begin w k x ≡ any (on w k x) (arcs s 0 0)
lay_out_is w k x s =
    sets w k x s [] begin
    ∙ or-false (any (passes (marks w k x)) (arcs s 0 0))
    ∙ any_same (passes (marks w k x)) (on w k x) (λ e. passes_on w k x e.level e.kind e.from e.to) (arcs s 0 0)
