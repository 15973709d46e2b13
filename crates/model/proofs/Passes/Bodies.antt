-- THE BODIES OF GROUPS WITH `*` IN A TREE, each from its start to its end as states: every edge without a letter stays in such a body or out of it, but
-- for those that enter it by its start and leave it by its end; and two bodies are one, apart, or one in the other and then deeper. It is shown item
-- by item along the tree: what lies outside a sequence touches no state strictly inside it.
use mathlib.Core.Path.{◌≡◌, refl}
use mathlib.Core.Logic.{◌⊎◌, inl, inr}
use Prim.Native.Nat.{ℕ, suc, ◌≤◌, ◌<◌}
use native.Mathlib.Nat.{le_refl}
use native.Mathlib.Omega.{arith}
use lib.Dec.{T}
use Rattle.model.specs.Lists.{◌∈◌, All}
use Rattle.model.specs.Tree.{Alts, can_return, end, last, letter, Mark, more, optional, Seq, starred, union, unmarked}
use Rattle.model.specs.Edges.{alts_end, ends_of, seq_end, starts_of, ways}
use Rattle.model.proofs.Language.Arcs.{alts_arcs, Arc, arc, ArcKind, arcs, back_arc, branch_whole, fork_arc, letter_whole, letter_arc, loop_arc, propagate_arc}
use Rattle.model.proofs.Language.Languages.{alts_end_lt, ends_among, seq_end_le, starts_among}
use Rattle.model.proofs.Laws.Lists.{all_app, all_in, all_map, In}
use Rattle.model.proofs.Words.Full.{Full, FullA, Single}

-- ---- the states that an arc without a letter touches all have P, and it lies at depth n or deeper; a back edge falls
abbrev TouchKind : (ℕ → Type 0) → ArcKind → ℕ → ℕ → Type 0
TouchKind P (letter_arc c) i j = Unit
TouchKind P (loop_arc c) i j = Unit
TouchKind P propagate_arc i j = P i × P j
TouchKind P (fork_arc xs) i j = P i × P j × ((x : ℕ) → x ∈ starts_of xs → P x) × ((x : ℕ) → x ∈ ends_of xs → P x)
TouchKind P back_arc i j = P i × P j × (j ≤ i)

abbrev pub Touch : (ℕ → Type 0) → ℕ → Arc → Type 0
Touch P n e = (n ≤ e.level) × TouchKind P e.kind e.from e.to

touch_map : (P Q : ℕ → Type 0) (n l : ℕ) → l ≤ n → ((x : ℕ) → P x → Q x) → (e : Arc) → Touch P n e → Touch Q l e
touch_map P Q n l h f e w = (omega (arith, w.0), go e.kind e.from e.to w.1)
  where
    go : (k : ArcKind) (i j : ℕ) → TouchKind P k i j → TouchKind Q k i j
    go (letter_arc c) i j t = tt
    go (loop_arc c) i j t = tt
    go propagate_arc i j t = (f i t.0, f j t.1)
    go (fork_arc xs) i j t = (f i t.0, f j t.1, λ x k. f x (t.2 x k), λ x k. f x (t.3 x k))
    go back_arc i j t = (f i t.0, f j t.1, t.2)

-- from a to z; not strictly between a and z
abbrev pub Between : ℕ → ℕ → ℕ → Type 0
Between a z x = (a ≤ x) × (x ≤ z)

abbrev Outside : ℕ → ℕ → ℕ → Type 0
Outside a z x = (x ≤ a) ⊎ (z ≤ x)

-- a sequence keeps to its own states
mutual
  pub touches : (s : Seq) (t k : ℕ) → All (Touch (Between t (seq_end s t)) k) (arcs s t k)
  touches end t k = tt
  touches (letter c r s) t k =
      let P = Between t (seq_end s (suc t)) in
      let l = seq_end_le s (suc t) in
      letter_whole (Touch P k) c r s t k (record {
        takes = (le_refl k, tt);
        loops = λ x. (le_refl k, tt);
        skips = λ x. (le_refl k, (omega arith, omega arith));
        rest = all_map (Touch (Between (suc t) (seq_end s (suc t))) k) (Touch P k)
            (touch_map (Between (suc t) (seq_end s (suc t))) P k k (le_refl k) (λ x h. omega arith)) (arcs s (suc t) k) (touches s (suc t) k);
      })
  touches (union m a s) t k =
      let u = suc (alts_end a t) in
      let P = Between t (seq_end s u) in
      let l = seq_end_le s u in
      let b = alts_end_lt a t in
      branch_whole (Touch P k) m a s t k (record {
        skips = λ x. (le_refl k, (omega arith, omega arith));
        forks = (le_refl k, (omega arith, omega arith, λ x h. omega (arith, starts_among a t x h), λ x h. omega (arith, ends_among a t x h)));
        returns = λ x. (le_refl k, (omega arith, omega arith, omega arith));
        alts = all_map (Touch (Between (suc t) (alts_end a t)) (suc k)) (Touch P k)
            (touch_map (Between (suc t) (alts_end a t)) P (suc k) k (omega arith) (λ x h. omega arith)) (alts_arcs a t k) (touches_alts a t k);
        rest = all_map (Touch (Between u (seq_end s u)) k) (Touch P k) (touch_map (Between u (seq_end s u)) P k k (le_refl k) (λ x h. omega arith)) (arcs s u k) (touches s u k);
      })

  touches_alts : (a : Alts) (p k : ℕ) → All (Touch (Between (suc p) (alts_end a p)) (suc k)) (alts_arcs a p k)
  touches_alts (last s) p k = touches s (suc p) (suc k)
  touches_alts (more s a) p k =
      let z = seq_end s (suc p) in
      let P = Between (suc p) (alts_end a z) in
      let l = seq_end_le s (suc p) in
      let b = alts_end_lt a z in
      all_app (Touch P (suc k)) (arcs s (suc p) (suc k)) (alts_arcs a z k)
      (all_map (Touch (Between (suc p) z) (suc k)) (Touch P (suc k)) (touch_map (Between (suc p) z) P (suc k) (suc k) (le_refl (suc k)) (λ x h. omega arith))
      (arcs s (suc p) (suc k)) (touches s (suc p) (suc k)))
      (all_map (Touch (Between (suc z) (alts_end a z)) (suc k)) (Touch P (suc k))
      (touch_map (Between (suc z) (alts_end a z)) P (suc k) (suc k) (le_refl (suc k)) (λ x h. omega arith)) (alts_arcs a z k) (touches_alts a z k))

-- ---- what an arc is to a body from r to q of a group at depth n
abbrev Beyond : ℕ → ℕ → ℕ → Type 0
Beyond r q x = (x < r) ⊎ (q < x)

pub data Moves (r q x y : ℕ) : Type 0 where
  inward : Between r q x → Between r q y → Moves r q x y
  past : Beyond r q x → Beyond r q y → Moves r q x y
  enters : Beyond r q x → y ≡ r → Moves r q x y
  leaves : x ≡ q → Beyond r q y → Moves r q x y

-- another back edge, of depth l from i to j: the same; in the body, and deeper; around it; before or behind it
pub data Lies (n r q l i j : ℕ) : Type 0 where
  same : i ≡ q → j ≡ r → Lies n r q l i j
  inner : n < l → r ≤ j → i ≤ q → Lies n r q l i j
  outer : j < r → q < i → Lies n r q l i j
  before : i < r → Lies n r q l i j
  behind : q < j → Lies n r q l i j

abbrev MeetsKind : (n r q l : ℕ) → ArcKind → ℕ → ℕ → Type 0
MeetsKind n r q l (letter_arc c) i j = Unit
MeetsKind n r q l (loop_arc c) i j = Unit
MeetsKind n r q l propagate_arc i j = Moves r q i j
MeetsKind n r q l (fork_arc xs) i j = ((y : ℕ) → y ∈ starts_of xs → Moves r q i y) × ((x : ℕ) → x ∈ ends_of xs → Moves r q x j)
MeetsKind n r q l back_arc i j = Lies n r q l i j

abbrev pub Meets : (n r q : ℕ) → Arc → Type 0
Meets n r q e = MeetsKind n r q e.level e.kind e.from e.to

-- what keeps to the body, and what keeps out of it
within_meets : (n r q : ℕ) (e : Arc) → Touch (Between r q) (suc n) e → Meets n r q e
within_meets n r q e w = go e.kind e.from e.to w.1
  where
    go : (k : ArcKind) (i j : ℕ) → TouchKind (Between r q) k i j → MeetsKind n r q e.level k i j
    go (letter_arc c) i j t = tt
    go (loop_arc c) i j t = tt
    go propagate_arc i j t = inward t.0 t.1
    go (fork_arc xs) i j t = (λ y h. inward t.0 (t.2 y h), λ x h. inward (t.3 x h) t.1)
    go back_arc i j t = inner w.0 t.1.0 t.0.1

beyond_meets : (n r q l : ℕ) → r ≤ q → (e : Arc) → Touch (Beyond r q) l e → Meets n r q e
beyond_meets n r q l o e w = go e.kind e.from e.to w.1
  where
    around : (i j : ℕ) → Beyond r q i → Beyond r q j → j ≤ i → Lies n r q e.level i j
    around i j (inl h) k f = before h
    around i j (inr h) (inl k) f = outer k h
    around i j (inr h) (inr k) f = behind k

    go : (k : ArcKind) (i j : ℕ) → TouchKind (Beyond r q) k i j → MeetsKind n r q e.level k i j
    go (letter_arc c) i j t = tt
    go (loop_arc c) i j t = tt
    go propagate_arc i j t = past t.0 t.1
    go (fork_arc xs) i j t = (λ y h. past t.0 (t.2 y h), λ x h. past (t.3 x h) t.1)
    go back_arc i j t = around i j t.0 t.1 t.2

-- ---- states outside each of the alternatives after state p
abbrev Apart : Alts → ℕ → ℕ → Type 0
Apart (last s) p x = Outside (suc p) (seq_end s (suc p)) x
Apart (more s a) p x = Outside (suc p) (seq_end s (suc p)) x × Apart a (seq_end s (suc p)) x

apart_low : (a : Alts) (p x : ℕ) → x ≤ suc p → Apart a p x
apart_low (last s) p x h = inl h
apart_low (more s a) p x h = (inl h, apart_low a (seq_end s (suc p)) x (omega (arith, seq_end_le s (suc p))))

apart_high : (a : Alts) (p x : ℕ) → alts_end a p ≤ x → Apart a p x
apart_high (last s) p x h = inr h
apart_high (more s a) p x h = (inr (omega (arith, alts_end_lt a (seq_end s (suc p)))), apart_high a (seq_end s (suc p)) x h)

apart_start : (a : Alts) (p x : ℕ) → x ∈ starts_of (ways a p) → Apart a p x
apart_start (last s) p x (inl e) = inl (omega arith)
apart_start (last s) p x (inr h) = absurd h
apart_start (more s a) p x (inl e) = (inl (omega arith), apart_low a (seq_end s (suc p)) x (omega (arith, seq_end_le s (suc p))))
apart_start (more s a) p x (inr h) =
    let z = seq_end s (suc p) in let b = starts_among a z x h in (inr (omega (arith, b)), apart_start a z x h)

apart_end : (a : Alts) (p x : ℕ) → x ∈ ends_of (ways a p) → Apart a p x
apart_end (last s) p x (inl e) = inr (omega arith)
apart_end (last s) p x (inr h) = absurd h
apart_end (more s a) p x (inl e) = (inr (omega arith), apart_low a (seq_end s (suc p)) x (omega arith))
apart_end (more s a) p x (inr h) = let z = seq_end s (suc p) in let b = ends_among a z x h in (inr (omega (arith, b)), apart_end a z x h)

-- ---- all arcs E of a tree, among them those of a sequence or of alternatives, and otherwise only such as keep out of them
module _ (E : Arc → Type 0) where
  abbrev Around : Seq → ℕ → ℕ → Type 1
  Around s t k = (Q : Arc → Type 0) → All Q (arcs s t k) → ((e : Arc) → Touch (Outside t (seq_end s t)) 0 e → Q e) → (e : Arc) → E e → Q e

  abbrev AroundAlts : Alts → ℕ → ℕ → Type 1
  AroundAlts a p k = (Q : Arc → Type 0) → All Q (alts_arcs a p k) → ((e : Arc) → Touch (Apart a p) 0 e → Q e) → (e : Arc) → E e → Q e

  -- every arc meets the body of the back edge e
  abbrev ClearKind : ArcKind → ℕ → ℕ → ℕ → Type 0
  ClearKind (letter_arc c) k i j = Unit
  ClearKind (loop_arc c) k i j = Unit
  ClearKind propagate_arc k i j = Unit
  ClearKind (fork_arc xs) k i j = Unit
  ClearKind back_arc k i j = (j ≤ i) × ((f : Arc) → E f → Meets k j i f)

  abbrev pub Clear : Arc → Type 0
  Clear e = ClearKind e.kind e.level e.from e.to

  -- a group with `*` has a clear body
  own : (m : Mark) (a : Alts) (s : Seq) (t k : ℕ) → Single m a → T (can_return m) → Around (union m a s) t k
      → (f : Arc) → E f → Meets k (suc t) (alts_end a t) f
  own unmarked a s t k S c A = absurd c
  own optional a s t k S c A = absurd c
  own starred (more b a) s t k S c A = absurd S
  own starred (last b) s t k S c A =
      A (Meets k r q) (branch_whole (Meets k r q) starred (last b) s t k (record {
        skips = λ x. past (inl (omega arith)) (inr (omega arith));
        forks = (λ y h. one y h, λ x h. other x h);
        returns = λ x. same refl refl;
        alts = all_map (Touch (Between r q) (suc k)) (Meets k r q) (within_meets k r q) (arcs b r (suc k)) (touches b r (suc k));
        rest = all_map (Touch (Between (suc q) (seq_end s (suc q))) k) (Meets k r q)
            (λ e w. out e (touch_map (Between (suc q) (seq_end s (suc q))) (Beyond r q) k 0 (omega arith) (λ x h. inr (omega arith)) e w)) (arcs s (suc q) k) (touches s (suc q) k);
      }))
      (λ e w. out e (touch_map (Outside t (seq_end s (suc q))) (Beyond r q) 0 0 (omega arith) (λ x h. away x h) e w))
    where
      r : ℕ
      r = suc t

      q : ℕ
      q = seq_end b (suc t)

      out : (e : Arc) → Touch (Beyond r q) 0 e → Meets k r q e
      out = beyond_meets k r q 0 (seq_end_le b (suc t))

      one : (y : ℕ) → y ∈ starts_of (ways (last b) t) → Moves r q t y
      one y (inl e) = enters (inl (omega arith)) e
      one y (inr h) = absurd h

      other : (x : ℕ) → x ∈ ends_of (ways (last b) t) → Moves r q x (suc q)
      other x (inl e) = leaves e (inr (omega arith))
      other x (inr h) = absurd h

      away : (x : ℕ) → Outside t (seq_end s (suc q)) x → Beyond r q x
      away x (inl h) = inl (omega arith)
      away x (inr h) = inr (omega (arith, seq_end_le s (suc q)))

  -- THE THEOREM: every body is clear
  mutual
    bodies : (s : Seq) (t k : ℕ) → Full s → Around s t k → All Clear (arcs s t k)
    bodies end t k F A = tt
    bodies (letter c r s) t k F A =
        letter_whole Clear c r s t k (record {
          takes = tt;
          loops = λ x. tt;
          skips = λ x. tt;
          rest = bodies s (suc t) k F (λ Q B O. A Q (letter_whole Q c r s t k (record {
            takes = O (arc (letter_arc c) k t (suc t)) (omega arith, tt);
            loops = λ x. O (arc (loop_arc c) k (suc t) (suc t)) (omega arith, tt);
            skips = λ x. O (arc propagate_arc k t (suc t)) (omega arith, (inl (omega arith), inl (omega arith)));
            rest = B;
          })) (λ e w. O e (touch_map (Outside t (seq_end s (suc t))) (Outside (suc t) (seq_end s (suc t))) 0 0 (omega arith) (λ x h. further x h) e w)));
        })
      where
        further : (x : ℕ) → Outside t (seq_end s (suc t)) x → Outside (suc t) (seq_end s (suc t)) x
        further x (inl h) = inl (omega arith)
        further x (inr h) = inr h
    bodies (union m a s) t k F A =
        branch_whole Clear m a s t k (record {
          skips = λ x. tt;
          forks = tt;
          returns = λ c. (omega (arith, alts_end_lt a t), own m a s t k F.2 c A);
          alts = alts_bodies a t k F.0 (λ Q B O. A Q (branch_whole Q m a s t k (record {
            skips = λ x. O (arc propagate_arc k t u) (omega arith, (low t (omega arith), high u (omega arith)));
            forks = O (arc (fork_arc (ways a t)) k t u) (omega arith, (low t (omega arith), high u (omega arith), apart_start a t, apart_end a t));
            returns = λ x. O (arc back_arc k (alts_end a t) (suc t)) (omega arith, (high (alts_end a t) (le_refl (alts_end a t)), low (suc t) (le_refl (suc t)), alts_end_lt a t));
            alts = B;
            rest = all_map (Touch (Between u z) k) Q (λ e w. O e (touch_map (Between u z) (Apart a t) k 0 (omega arith) (λ x h. high x (omega arith)) e w)) (arcs s u k) (touches s u k);
          })) (λ e w. O e (touch_map (Outside t z) (Apart a t) 0 0 (omega arith) (λ x h. outer_state x h) e w)));
          rest = bodies s u k F.1 (λ Q B O. A Q (branch_whole Q m a s t k (record {
            skips = λ x. O (arc propagate_arc k t u) (omega arith, (inl (omega (arith, alts_end_lt a t)), inl (le_refl u)));
            forks = O (arc (fork_arc (ways a t)) k t u) (
              omega arith,
              (inl (omega (arith, alts_end_lt a t)), inl (le_refl u), λ x h. inl (omega (arith, starts_among a t x h)), λ x h. inl (omega (arith, ends_among a t x h))),
            );
            returns = λ x. O (arc back_arc k (alts_end a t) (suc t)) (omega arith, (inl (omega arith), inl (omega (arith, alts_end_lt a t)), alts_end_lt a t));
            alts = all_map (Touch (Between (suc t) (alts_end a t)) (suc k)) Q
                (λ e w. O e (touch_map (Between (suc t) (alts_end a t)) (Outside u z) (suc k) 0 (omega arith) (λ x h. inl (omega arith)) e w)) (alts_arcs a t k) (touches_alts a t k);
            rest = B;
          })) (λ e w. O e (touch_map (Outside t z) (Outside u z) 0 0 (omega arith) (λ x h. further x h) e w)));
        })
      where
        u : ℕ
        u = suc (alts_end a t)

        z : ℕ
        z = seq_end s u

        low : (x : ℕ) → x ≤ suc t → Apart a t x
        low = apart_low a t

        high : (x : ℕ) → alts_end a t ≤ x → Apart a t x
        high = apart_high a t

        outer_state : (x : ℕ) → Outside t z x → Apart a t x
        outer_state x (inl h) = low x (omega arith)
        outer_state x (inr h) = high x (omega (arith, seq_end_le s u))

        further : (x : ℕ) → Outside t z x → Outside u z x
        further x (inl h) = inl (omega (arith, alts_end_lt a t))
        further x (inr h) = inr h

    alts_bodies : (a : Alts) (p k : ℕ) → FullA a → AroundAlts a p k → All Clear (alts_arcs a p k)
    alts_bodies (last s) p k F A = bodies s (suc p) (suc k) F.1 A
    alts_bodies (more s a) p k F A =
        let z = seq_end s (suc p) in
        all_app Clear (arcs s (suc p) (suc k)) (alts_arcs a z k)
        (bodies s (suc p) (suc k) F.1 (λ Q B O. A Q (all_app Q (arcs s (suc p) (suc k)) (alts_arcs a z k) B
        (all_map (Touch (Between (suc z) (alts_end a z)) (suc k)) Q
        (λ e w. O e (touch_map (Between (suc z) (alts_end a z)) (Outside (suc p) z) (suc k) 0 (omega arith) (λ x h. inr (omega arith)) e w)) (alts_arcs a z k) (touches_alts a z k)))
        (λ e w. O e (touch_map (Apart (more s a) p) (Outside (suc p) z) 0 0 (omega arith) (λ x h. h.0) e w))))
        (alts_bodies a z k F.2 (λ Q B O. A Q (all_app Q (arcs s (suc p) (suc k)) (alts_arcs a z k)
        (all_map (Touch (Between (suc p) z) (suc k)) Q
        (λ e w. O e (touch_map (Between (suc p) z) (Apart a z) (suc k) 0 (omega arith) (λ x h. apart_low a z x (omega arith)) e w)) (arcs s (suc p) (suc k)) (touches s (suc p) (suc k))) B)
        (λ e w. O e (touch_map (Apart (more s a) p) (Apart a z) 0 0 (omega arith) (λ x h. h.1) e w))))

-- OF A WHOLE TREE
pub tree_bodies : (s : Seq) → Full s → All (Clear (In (arcs s 0 0))) (arcs s 0 0)
tree_bodies s F = bodies (In (arcs s 0 0)) s 0 0 F (λ Q B O. all_in Q (arcs s 0 0) B)
