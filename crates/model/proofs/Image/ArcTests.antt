-- Whether some arc of a tree passes a test, by the tree: a letter's arcs and what follows; a union's propagate edge, its fork, the arcs of its
-- alternatives and what follows.
use mathlib.Core.Path.{◌≡◌, refl, sym, ap, ◌∙◌}
use mathlib.Core.Bool.{Bool, true, false, ◌&&◌, ◌||◌, or_assoc}
use mathlib.Core.List.{List, ◌∷◌, ◌++◌}
use Prim.Native.Nat.{ℕ, suc}
use Rattle.model.specs.Lists.{any}
use Rattle.model.specs.Tree.{Alts, can_loop, can_return, can_skip, letter, Mark, more, Repeat, Seq, union}
use Rattle.model.specs.Edges.{alts_end, seq_end, union_empty, Way, ways}
use Rattle.model.proofs.Language.Arcs.{alts_arcs, Arc, arc, arcs, back_arc, fork_arc, letter_arc, loop_arc, propagate_arc, when}
use Rattle.model.proofs.Laws.Lists.{any_app}

module _ (g : Arc → Bool) where
  -- some arc of a letter from state i at depth k passes
  abbrev pub letter_test : ℕ → Repeat → ℕ → ℕ → Bool
  letter_test c r k i =
      g (arc (letter_arc c) k i (suc i)) || ((can_loop r && g (arc (loop_arc c) k (suc i) (suc i))) || (can_skip r && g (arc propagate_arc k i (suc i))))

  -- the propagate edge or the fork of a union from t to u at depth k passes, where b says whether the union can be empty
  abbrev pub branch_test : Bool → ℕ → ℕ → List Way → ℕ → Bool
  branch_test b k t ws u = (b && g (arc propagate_arc k t u)) || g (arc (fork_arc ws) k t u)

  pub any_when : (b : Bool) (e : Arc) (es : List Arc) → any g (when b e es) ≡ ((b && g e) || any g es)
  any_when true e es = refl
  any_when false e es = refl

  pub any_letter : (c : ℕ) (r : Repeat) (s : Seq) (t k : ℕ) → any g (arcs (letter c r s) t k) ≡ (letter_test c r k t || any g (arcs s (suc t) k))
  any_letter c r s t k =
      ap (λ (v : Bool). A || v) (any_when (can_loop r) (arc (loop_arc c) k (suc t) (suc t)) (when (can_skip r) (arc propagate_arc k t (suc t)) (arcs s (suc t) k))
      ∙ ap (λ (v : Bool). L || v) (any_when (can_skip r) (arc propagate_arc k t (suc t)) (arcs s (suc t) k)))
      ∙ go A L P (any g (arcs s (suc t) k))
    where
      A : Bool
      A = g (arc (letter_arc c) k t (suc t))

      L : Bool
      L = can_loop r && g (arc (loop_arc c) k (suc t) (suc t))

      P : Bool
      P = can_skip r && g (arc propagate_arc k t (suc t))

      go : (a l p f : Bool) → (a || (l || (p || f))) ≡ ((a || (l || p)) || f)
      go a l p f = simp or_assoc

  pub any_union : (m : Mark) (a : Alts) (s : Seq) (t k : ℕ) → any g (arcs (union m a s) t k)
      ≡ (branch_test (union_empty m a) k t (ways a t) (suc (alts_end a t))
      || ((can_return m && g (arc back_arc k (alts_end a t) (suc t))) || (any g (alts_arcs a t k) || any g (arcs s (suc (alts_end a t)) k))))
  any_union m a s t k =
      any_when (union_empty m a) (arc propagate_arc k t u) (arc (fork_arc (ways a t)) k t u ∷ when (can_return m) back (alts_arcs a t k ++ arcs s u k))
      ∙ ap (λ (v : Bool). P || (F || v)) (any_when (can_return m) back (alts_arcs a t k ++ arcs s u k) ∙ ap (λ (v : Bool). R || v) (any_app g (alts_arcs a t k) (arcs s u k)))
      ∙ sym (or_assoc P F (R || (any g (alts_arcs a t k) || any g (arcs s u k))))
    where
      u : ℕ
      u = suc (alts_end a t)

      back : Arc
      back = arc back_arc k (alts_end a t) (suc t)

      P : Bool
      P = union_empty m a && g (arc propagate_arc k t u)

      F : Bool
      F = g (arc (fork_arc (ways a t)) k t u)

      R : Bool
      R = can_return m && g back

  pub any_more : (s : Seq) (a : Alts) (p k : ℕ) → any g (alts_arcs (more s a) p k) ≡ (any g (arcs s (suc p) (suc k)) || any g (alts_arcs a (seq_end s (suc p)) k))
  any_more s a p k = any_app g (arcs s (suc p) (suc k)) (alts_arcs a (seq_end s (suc p)) k)
