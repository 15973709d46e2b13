-- A tree's arcs are read off its parts, as the edges of document 01 are: the arcs of each letter and each union, one after another.
use mathlib.Core.Path.{◌≡◌, refl, sym, ap, ap₂, ◌∙◌}
use mathlib.Core.Bool.{Bool, true, false}
use mathlib.Core.List.{List, [], ◌∷◌, ◌++◌}
use Prim.Native.Nat.{ℕ, suc}
use Rattle.model.specs.Lists.{each}
use Rattle.model.specs.Tree.{Alts, can_loop, can_return, can_skip, end, last, letter, Mark, more, optional, Seq, starred, Tree, union, unmarked}
use Rattle.model.specs.Edges.{alts_end, alts_parts, letter_at, Part, parts, return_at, returns, seq_end, union_at, union_empty, ways}
use Rattle.model.proofs.Language.Arcs.{alts_arcs, Arc, arc, arcs, back_arc, fork_arc, letter_arc, loop_arc, propagate_arc, when}
use Rattle.model.proofs.Laws.Each.{each_app}

-- ---- the arcs of a part, and of a tree by its parts
abbrev pub arcs_of : Part → List Arc
arcs_of (letter_at c r k i) = arc (letter_arc c) k i (suc i) ∷ when (can_loop r) (arc (loop_arc c) k (suc i) (suc i)) (when (can_skip r) (arc propagate_arc k i (suc i)) [])
arcs_of (union_at empty k t ws u) = when empty (arc propagate_arc k t u) (arc (fork_arc ws) k t u ∷ [])
arcs_of (return_at k q r) = arc back_arc k q r ∷ []

when_app : (b : Bool) (e : Arc) (es fs : List Arc) → when b e (es ++ fs) ≡ when b e es ++ fs
when_app true e es fs = refl
when_app false e es fs = refl

returned : (m : Mark) (k q r : ℕ) (ps : List Part) → each arcs_of (returns m k q r ++ ps) ≡ when (can_return m) (arc back_arc k q r) (each arcs_of ps)
returned unmarked k q r ps = refl
returned optional k q r ps = refl
returned starred k q r ps = refl

mutual
  seq_arcs : (s : Seq) (t k : ℕ) → arcs s t k ≡ each arcs_of (parts s t k)
  seq_arcs end t k = refl
  seq_arcs (letter c r s) t k =
      ap (λ (l : List Arc). arc (letter_arc c) k t (suc t) ∷ l)
      (ap (λ (l : List Arc). when (can_loop r) loops (when (can_skip r) skips l)) (seq_arcs s (suc t) k)
      ∙ ap (when (can_loop r) loops) (when_app (can_skip r) skips [] (each arcs_of (parts s (suc t) k)))
      ∙ when_app (can_loop r) loops (when (can_skip r) skips []) (each arcs_of (parts s (suc t) k)))
    where
      loops : Arc
      loops = arc (loop_arc c) k (suc t) (suc t)

      skips : Arc
      skips = arc propagate_arc k t (suc t)
  seq_arcs (union m a s) t k =
      ap₂ (λ (l r : List Arc). over (fork ∷ when (can_return m) back (l ++ r))) (alts-arcs a t k) (seq_arcs s u k)
      ∙ ap (λ (l : List Arc). over (fork ∷ when (can_return m) back l)) (sym (each_app arcs_of (alts_parts a t k) (parts s u k)))
      ∙ ap (λ (l : List Arc). over (fork ∷ l)) (sym (returned m k (alts_end a t) (suc t) (alts_parts a t k ++ parts s u k)))
      ∙ when_app (union_empty m a) (arc propagate_arc k t u) (fork ∷ []) (each arcs_of (returns m k (alts_end a t) (suc t) ++ (alts_parts a t k ++ parts s u k)))
    where
      u : ℕ
      u = suc (alts_end a t)

      over : List Arc → List Arc
      over = when (union_empty m a) (arc propagate_arc k t u)

      fork : Arc
      fork = arc (fork_arc (ways a t)) k t u

      back : Arc
      back = arc back_arc k (alts_end a t) (suc t)

  alts-arcs : (a : Alts) (p k : ℕ) → alts_arcs a p k ≡ each arcs_of (alts_parts a p k)
  alts-arcs (last s) p k = seq_arcs s (suc p) (suc k)
  alts-arcs (more s a) p k =
      ap₂ (λ (l m : List Arc). l ++ m) (seq_arcs s (suc p) (suc k)) (alts-arcs a (seq_end s (suc p)) k)
      ∙ sym (each_app arcs_of (parts s (suc p) (suc k)) (alts_parts a (seq_end s (suc p)) k))

pub arcs_are : (t : Tree) → arcs t 0 0 ≡ each arcs_of (parts t 0 0)
arcs_are t = seq_arcs t 0 0
