-- THE RUN OVER A TEXT, on sets of states: before any byte what state 0 reaches without a letter, after a byte what the moved states and state 0 reach.
-- A state is in the set exactly if the text read so far leads to it, for the passes give all that edges without a letter reach, and the move all that
-- letters do.
use mathlib.Core.Path.{◌≡◌, refl, sym, subst}
use mathlib.Core.Logic.{◌⊎◌, inl, inr, ◌↔◌}
use mathlib.Core.Bool.{Bool, true, false, ◌&&◌, ◌||◌}
use mathlib.Core.List.{List, [], ◌∷◌}
use Prim.Native.Nat.{ℕ, zero, suc, ◌<◌}
use native.Mathlib.Omega.{arith}
use lib.Dec.{T, eqb, eqb→eq, eqb_refl}
use Rattle.model.specs.Lists.{All, any}
use Rattle.model.specs.Bits.{bit}
use Rattle.model.specs.Tree.{Alts, end, last, letter, more, Seq, union}
use Rattle.model.specs.Edges.{alts_end, seq_end}
use Rattle.model.specs.Live.{itself, onward, Reached}
use Rattle.model.specs.Ends.{Spells}
use Rattle.model.proofs.Language.Accepts.{accepts}
use Rattle.model.proofs.Language.Arcs.{alts_arcs, Arc, arc, ArcKind, arcs, back_arc, branch_whole, Byte, fork_arc, letter_whole, letter_arc, loop_arc, propagate_arc, Still}
use Rattle.model.proofs.Language.Languages.{feed}
use Rattle.model.proofs.Language.Stretches.{stretch}
use Rattle.model.proofs.Language.Texts.{byte, LeadsTo, start, still}
use Rattle.model.proofs.Laws.Bool.{and_both, and_split, or_left, or_right, or_split}
use Rattle.model.proofs.Laws.Lists.{all_app, all_in, any_in, any_out, In}
use Rattle.model.proofs.Passes.OnTrees.{Silent}
use Rattle.model.proofs.Words.Full.{Full}
use Rattle.model.proofs.Words.Rounds.{bits_are, closed}

-- ---- the sets of the run
-- a letter's arc takes the byte; a loop does
abbrev pub takes_byte : ℕ → ArcKind → Bool
takes_byte b (letter_arc c) = bit c b
takes_byte b (loop_arc c) = false
takes_byte b propagate_arc = false
takes_byte b (fork_arc xs) = false
takes_byte b back_arc = false

abbrev pub loops_byte : ℕ → ArcKind → Bool
loops_byte b (letter_arc c) = false
loops_byte b (loop_arc c) = bit c b
loops_byte b propagate_arc = false
loops_byte b (fork_arc xs) = false
loops_byte b back_arc = false

-- the letters' and the repeats' sets of a byte, and the set of state 0
abbrev pub letter_set : List Arc → ℕ → ℕ → Bool
letter_set es b x = any (λ e. takes_byte b e.kind && eqb x e.to) es

abbrev pub loop_set : List Arc → ℕ → ℕ → Bool
loop_set es b x = any (λ e. loops_byte b e.kind && eqb x e.to) es

abbrev pub start_set : ℕ → Bool
start_set x = eqb x 0

-- the move by a byte: "shift and letter mask", the repeats, and state 0
abbrev pub moved : List Arc → ℕ → (ℕ → Bool) → ℕ → Bool
moved es b D zero = true
moved es b D (suc x) = (D x && letter_set es b (suc x)) || (D (suc x) && loop_set es b (suc x))

-- ---- a letter's arc goes one state on, a loop stays, and neither enters state 0
abbrev Steps : ArcKind → ℕ → ℕ → Type 0
Steps (letter_arc c) i j = j ≡ suc i
Steps (loop_arc c) i j = (j ≡ i) × (0 < j)
Steps propagate_arc i j = Unit
Steps (fork_arc xs) i j = Unit
Steps back_arc i j = Unit

abbrev ArcSteps : Arc → Type 0
ArcSteps e = Steps e.kind e.from e.to

mutual
  steps : (s : Seq) (t k : ℕ) → All ArcSteps (arcs s t k)
  steps end t k = tt
  steps (letter c r s) t k = letter_whole ArcSteps c r s t k (record { takes = refl; loops = λ x. (refl, omega arith); skips = λ x. tt; rest = steps s (suc t) k })
  steps (union m a s) t k = branch_whole ArcSteps m a s t k (record { skips = λ x. tt; forks = tt; returns = λ x. tt; alts = alts_steps a t k; rest = steps s (suc (alts_end a t)) k })

  alts_steps : (a : Alts) (p k : ℕ) → All ArcSteps (alts_arcs a p k)
  alts_steps (last s) p k = steps s (suc p) (suc k)
  alts_steps (more s a) p k = let z = seq_end s (suc p) in all_app ArcSteps (arcs s (suc p) (suc k)) (alts_arcs a z k) (steps s (suc p) (suc k)) (alts_steps a z k)

-- so the moves along an arc by a byte are those that the two sets tell
takes_move : (b : ℕ) (w : ArcKind) (i j x : ℕ) → Steps w i j → T (takes_byte b w) → suc x ≡ j → Byte b w i j x (suc x)
takes_move b (letter_arc c) i j x n h k = (h, omega arith, k)
takes_move b (loop_arc c) i j x n h k = absurd h
takes_move b propagate_arc i j x n h k = absurd h
takes_move b (fork_arc xs) i j x n h k = absurd h
takes_move b back_arc i j x n h k = absurd h

loops_move : (b : ℕ) (w : ArcKind) (i j x : ℕ) → Steps w i j → T (loops_byte b w) → suc x ≡ j → Byte b w i j (suc x) (suc x)
loops_move b (letter_arc c) i j x n h k = absurd h
loops_move b (loop_arc c) i j x n h k = (h, omega (arith, n.0), k)
loops_move b propagate_arc i j x n h k = absurd h
loops_move b (fork_arc xs) i j x n h k = absurd h
loops_move b back_arc i j x n h k = absurd h

move_from : (b : ℕ) (w : ArcKind) (i j q x : ℕ) → Steps w i j → Byte b w i j q (suc x)
    → (suc x ≡ j) × ((T (takes_byte b w) × (q ≡ x)) ⊎ (T (loops_byte b w) × (q ≡ suc x)))
move_from b (letter_arc c) i j q x n m = (m.2, inl (m.0, omega (arith, m.1, m.2)))
move_from b (loop_arc c) i j q x n m = (m.2, inr (m.0, omega (arith, m.1, m.2, n.0)))
move_from b propagate_arc i j q x n m = absurd m
move_from b (fork_arc xs) i j q x n m = absurd m
move_from b back_arc i j q x n m = absurd m

module _ (s : Seq) (F : Full s) where
  abbrev es : List Arc
  es = arcs s 0 0

  -- ---- the move gives exactly what the byte leads to
  abbrev pub Moved : ℕ → (ℕ → Bool) → ℕ → Type 0
  Moved b D x = (x ≡ 0) ⊎ ((e : Arc) × (q : ℕ) × In es e × Byte b e.kind e.from e.to q x × T (D q))

  near : (e : Arc) → In es e → ArcSteps e
  near = all_in ArcSteps es (steps s 0 0)

  pub moved_out : (b : ℕ) (D : ℕ → Bool) (x : ℕ) → T (moved es b D x) → Moved b D x
  moved_out b D zero h = inl refl
  moved_out b D (suc x) h = elim (or_split (D x && letter_set es b (suc x)) (D (suc x) && loop_set es b (suc x)) h) [ inl k ↦ by-letter k | inr k ↦ by_loop k ]
    where
      by-letter : T (D x && letter_set es b (suc x)) → Moved b D (suc x)
      by-letter h =
          let a = and_split (D x) (letter_set es b (suc x)) h in
          let r = any_out (λ e. takes_byte b e.kind && eqb (suc x) e.to) es a.1 in
          let e = r.0 in
          let c = and_split (takes_byte b e.kind) (eqb (suc x) e.to) r.2 in
          inr (e, x, r.1, takes_move b e.kind e.from e.to x (near e r.1) c.0 (eqb→eq (suc x) e.to c.1), a.0)

      by_loop : T (D (suc x) && loop_set es b (suc x)) → Moved b D (suc x)
      by_loop h =
          let a = and_split (D (suc x)) (loop_set es b (suc x)) h in
          let r = any_out (λ e. loops_byte b e.kind && eqb (suc x) e.to) es a.1 in
          let e = r.0 in
          let c = and_split (loops_byte b e.kind) (eqb (suc x) e.to) r.2 in
          inr (e, suc x, r.1, loops_move b e.kind e.from e.to x (near e r.1) c.0 (eqb→eq (suc x) e.to c.1), a.0)

  pub moved_in : (b : ℕ) (D : ℕ → Bool) (e : Arc) (q x : ℕ) → In es e → Byte b e.kind e.from e.to q x → T (D q) → T (moved es b D x)
  moved_in b D e q zero i m d = tt
  moved_in b D e q (suc x) i m d =
      let f = move_from b e.kind e.from e.to q x (near e i) m in
      let there = subst (λ (z : ℕ). T (eqb (suc x) z)) f.0 (eqb_refl (suc x)) in
      elim f.1 [
        | inl k ↦ or_left (D x && letter_set es b (suc x)) (D (suc x) && loop_set es b (suc x))
            (and_both (D x) (letter_set es b (suc x)) (subst (λ (y : ℕ). T (D y)) k.1 d)
            (any_in (λ e. takes_byte b e.kind && eqb (suc x) e.to) es e i (and_both (takes_byte b e.kind) (eqb (suc x) e.to) k.0 there)))
        | inr k ↦ or_right (D x && letter_set es b (suc x)) (D (suc x) && loop_set es b (suc x))
            (and_both (D (suc x)) (loop_set es b (suc x)) (subst (λ (y : ℕ). T (D y)) k.1 d)
            (any_in (λ e. loops_byte b e.kind && eqb (suc x) e.to) es e i (and_both (loops_byte b e.kind) (eqb (suc x) e.to) k.0 there)))
      ]

  -- ---- the moves along arcs without a letter are the propagate, gather, scatter and back edges
  abbrev Free : ℕ → ℕ → Type 0
  Free = Silent s

  pub still_free : (w : ArcKind) (k i j q r : ℕ) → In es (arc w k i j) → Still w i j q r → Free q r
  still_free (letter_arc c) k i j q r h m = absurd m
  still_free (loop_arc c) k i j q r h m = absurd m
  still_free propagate_arc k i j q r h m = inl (inl (k, subst (In es) (λ n. arc propagate_arc k (sym m.0 n) (sym m.1 n)) h))
  still_free (fork_arc xs) k i j q r h (inl m) = inl (inr (inr (k, (xs, j, subst (λ (y : ℕ). In es (arc (fork_arc xs) k y j)) (sym m.0) h, m.1))))
  still_free (fork_arc xs) k i j q r h (inr m) = inl (inr (inl (k, (xs, i, subst (λ (y : ℕ). In es (arc (fork_arc xs) k i y)) (sym m.1) h, m.0))))
  still_free back_arc k i j q r h m = inr (k, subst (In es) (λ n. arc back_arc k (sym m.0 n) (sym m.1 n)) h)

  free_leads : (w : List ℕ) (q r : ℕ) → Free q r → LeadsTo (In es) w q → LeadsTo (In es) w r
  free_leads w q r (inl (inl e)) h = still (arc propagate_arc e.0 q r) e.1 (refl, refl) h
  free_leads w q r (inl (inr (inl e))) h = still (arc (fork_arc e.1.0) e.0 e.1.1 r) e.1.2 (inr (e.1.3, refl)) h
  free_leads w q r (inl (inr (inr e))) h = still (arc (fork_arc e.1.0) e.0 q e.1.1) e.1.2 (inl (refl, e.1.3)) h
  free_leads w q r (inr e) h = still (arc back_arc e.0 q r) e.1 (refl, refl) h

  reached_leads : (w : List ℕ) (D : ℕ → Type 0) → ((q : ℕ) → D q → LeadsTo (In es) w q) → {q : ℕ} → Reached Free D q → LeadsTo (In es) w q
  reached_leads w D f (itself h) = f _ h
  reached_leads w D f (onward {q = q} {r = r} c e) = free_leads w q r e (reached_leads w D f c)

  -- ---- the run: the set before any byte, and after one more
  abbrev pub live_set : List ℕ → ℕ → Bool
  live_set [] = closed s F start_set
  live_set (b ∷ w) = closed s F (moved es b (live_set w))

  run_out : (w : List ℕ) (q : ℕ) → T (live_set w q) → LeadsTo (In es) w q
  run_out [] q h = reached_leads [] (λ x. T (start_set x)) (λ x k. subst (LeadsTo (In es) []) (sym (eqb→eq x 0 k)) start) ((bits_are s F start_set q).0 h)
  run_out (b ∷ w) q h =
      reached_leads (b ∷ w) (λ x. T (moved es b (live_set w) x)) (λ x k. go x (moved_out b (live_set w) x k) (λ y d. run_out w y d))
      ((bits_are s F (moved es b (live_set w)) q).0 h)
    where
      go : (x : ℕ) → Moved b (live_set w) x → ((y : ℕ) → T (live_set w y) → LeadsTo (In es) w y) → LeadsTo (In es) (b ∷ w) x
      go x (inl e) ih = subst (LeadsTo (In es) (b ∷ w)) (sym e) start
      go x (inr m) ih = byte m.0 m.2 m.3 (ih m.1 m.4)

  run_start : (w : List ℕ) → T (live_set w 0)
  run_start [] = (bits_are s F start_set 0).1 (itself tt)
  run_start (b ∷ w) = (bits_are s F (moved es b (live_set w)) 0).1 (itself tt)

  run_free : (w : List ℕ) (q r : ℕ) → Free q r → T (live_set w q) → T (live_set w r)
  run_free [] q r e h = (bits_are s F start_set r).1 (onward ((bits_are s F start_set q).0 h) e)
  run_free (b ∷ w) q r e h = let D = moved es b (live_set w) in (bits_are s F D r).1 (onward ((bits_are s F D q).0 h) e)

  run_in : {w : List ℕ} {q : ℕ} → LeadsTo (In es) w q → T (live_set w q)
  run_in (start {w = w}) = run_start w
  run_in (still {w = w} {q = q} {r = r} e i m h) = run_free w q r (still_free e.kind e.level e.from e.to q r i m) (run_in h)
  run_in (byte {b = b} {w = w} {q = q} {r = r} e i m h) = (bits_are s F (moved es b (live_set w)) r).1 (itself (moved_in b (live_set w) e q r i m (run_in h)))

  -- THE THEOREM: after the text w the accepting state is live exactly if w ends with a stretch that the tree spells
  pub ends_are : (w : List ℕ) → T (live_set w (seq_end s 0)) ↔ ((u : List ℕ) × (v : List ℕ) × (w ≡ feed u v) × Spells s v)
  ends_are w = (λ h. (stretch s w).0 ((accepts s F w).0 (run_out w (seq_end s 0) h)), λ h. run_in ((accepts s F w).1 ((stretch s w).1 h)))
