-- EVERY EDGE LEADS TO ONE OF THE TREE'S STATES, for the arcs of a sequence end at or below the state in which it ends. One without a letter rises, but
-- for those that lead back. One that takes a byte does not fall, and never enters state 0: it leads to the next state or to its own.
use Prim.Native.Nat.{ℕ, suc, ◌≤◌, ◌<◌}
use mathlib.Core.Path.{refl}
use mathlib.Core.Logic.{inl, inr}
use native.Mathlib.Omega.{arith}
use Rattle.model.specs.Lists.{◌∈◌, All}
use Rattle.model.specs.Tree.{Alts, end, last, letter, more, Seq, Tree, union}
use Rattle.model.specs.Edges.{alts_end, seq_end, states, ways}
use Rattle.model.specs.Live.{Free, itself, onward, Reached, Takes}
use Rattle.model.proofs.Definitions.Free.{free_is}
use Rattle.model.proofs.Definitions.Takes.{takes_is}
use Rattle.model.proofs.Language.Arcs.{alts_arcs, Arc, arc, ArcKind, arcs, back_arc, branch_whole, Byte, fork_arc, letter_whole, letter_arc, loop_arc, propagate_arc, Still}
use Rattle.model.proofs.Language.Languages.{alts_end_lt, ends_among, seq_end_le, starts_among}
use Rattle.model.proofs.Laws.Lists.{all_app, all_in, all_map}
use Rattle.model.proofs.Passes.Closure.{AnyEdge}
use Rattle.model.proofs.Passes.OnTrees.{Gathers, Propagates, Scatters}

-- a move along an arc that does not lead back rises
abbrev Rises : ArcKind → ℕ → ℕ → Type 0
Rises (letter_arc c) q r = q < r
Rises (loop_arc c) q r = q < r
Rises propagate_arc q r = q < r
Rises (fork_arc xs) q r = q < r
Rises back_arc q r = Unit

-- the moves along an arc lead to a state or below it
record To (top : ℕ) (e : Arc) : Type 0 where
  pub still : (q r : ℕ) → Still e.kind e.from e.to q r → Rises e.kind q r × (r ≤ top)
  pub byte : (b q r : ℕ) → Byte b e.kind e.from e.to q r → (q ≤ r) × (0 < r) × (r ≤ top)

higher : {top other : ℕ} → top ≤ other → (e : Arc) → To top e → To other e
higher l e I = record { still = λ q r m. let k = I.still q r m in (k.0, omega (arith, k.1)); byte = λ b q r m. let k = I.byte b q r m in omega (arith, k.0, k.1, k.2) }

mutual
  below : (s : Seq) (t k : ℕ) → All (To (seq_end s t)) (arcs s t k)
  below end t k = tt
  below (letter c r s) t k =
      let l = seq_end_le s (suc t) in
      letter_whole (To (seq_end s (suc t))) c r s t k (record {
        takes = record { still = λ q r m. absurd m; byte = λ b q r m. omega (arith, m.1, m.2) };
        loops = λ x. record { still = λ q r m. absurd m; byte = λ b q r m. omega (arith, m.1, m.2) };
        skips = λ x. record { still = λ q r m. omega (arith, m.0, m.1); byte = λ b q r m. absurd m };
        rest = below s (suc t) k;
      })
  below (union m a s) t k =
      branch_whole (To z) m a s t k (record {
        skips = λ x. record { still = λ q r m. omega (arith, m.0, m.1, alts_end_lt a t, seq_end_le s u); byte = λ b q r m. absurd m };
        forks = record { still = fork; byte = λ b q r m. absurd m };
        returns = λ x. record { still = λ q r m. (tt, omega (arith, m.1, alts_end_lt a t, seq_end_le s u)); byte = λ b q r m. absurd m };
        alts = all_map (To (alts_end a t)) (To z) (higher (omega (arith, seq_end_le s u))) (alts_arcs a t k) (alts_below a t k);
        rest = below s u k;
      })
    where
      u : ℕ
      u = suc (alts_end a t)

      z : ℕ
      z = seq_end s u

      fork : (q r : ℕ) → Still (fork_arc (ways a t)) t u q r → (q < r) × (r ≤ z)
      fork q r (inl x) = omega (arith, x.0, starts_among a t r x.1, seq_end_le s u)
      fork q r (inr x) = omega (arith, ends_among a t q x.0, x.1, seq_end_le s u)

  alts_below : (a : Alts) (p k : ℕ) → All (To (alts_end a p)) (alts_arcs a p k)
  alts_below (last s) p k = below s (suc p) (suc k)
  alts_below (more s a) p k =
      let z = seq_end s (suc p) in
      let e = alts_end a z in
      all_app (To e) (arcs s (suc p) (suc k)) (alts_arcs a z k)
      (all_map (To z) (To e) (higher (omega (arith, alts_end_lt a z))) (arcs s (suc p) (suc k)) (below s (suc p) (suc k))) (alts_below a z k)

module _ (t : Tree) where
  within : (e : Arc) → e ∈ arcs t 0 0 → To (seq_end t 0) e
  within = all_in (To (seq_end t 0)) (arcs t 0 0) (below t 0 0)

  -- AN EDGE WITHOUT A LETTER
  pub free_below : (q r : ℕ) → Free t q r → r < states t
  free_below q r h = let a = (free_is t q r).0 h in omega (arith, ((within a.0 a.1).still q r a.2).1)

  pub quiet_rises : (q r : ℕ) → AnyEdge (Propagates t) (Gathers t) (Scatters t) q r → q < r
  quiet_rises q r (inl (k, i)) = ((within (arc propagate_arc k q r) i).still q r (refl, refl)).0
  quiet_rises q r (inr (inl (k, (xs, p, i, h)))) = ((within (arc (fork_arc xs) k p r) i).still q r (inr (h, refl))).0
  quiet_rises q r (inr (inr (k, (xs, u, i, h)))) = ((within (arc (fork_arc xs) k q u) i).still q r (inl (refl, h))).0

  -- ONE THAT TAKES A BYTE
  takes_between : (b q r : ℕ) → Takes t b q r → (q ≤ r) × (0 < r) × (r ≤ seq_end t 0)
  takes_between b q r h = let a = (takes_is t b q r).0 h in (within a.0 a.1).byte b q r a.2

  pub takes_below : (b q r : ℕ) → Takes t b q r → r < states t
  takes_below b q r h = omega (arith, (takes_between b q r h).2)

  pub takes_rises : (b q r : ℕ) → Takes t b q r → (q ≤ r) × (0 < r)
  takes_rises b q r h = let k = takes_between b q r h in (k.0, k.1)

  -- WHAT IS REACHED from some of them without a letter
  pub reached_below : {D : ℕ → Type 0} → ((q : ℕ) → D q → q < states t) → (q : ℕ) → Reached (Free t) D q → q < states t
  reached_below f q (itself h) = f q h
  reached_below f q (onward {q = p} c e) = free_below p q e
