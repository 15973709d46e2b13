-- WHAT LEADS TO A STATE IS A TEXT OF ITS LANGUAGE: every arc of a tree carries the languages of its states along, and `LeadsTo` is the least that does.
use mathlib.Core.Path.{◌≡◌, sym, subst}
use mathlib.Core.Logic.{inl, inr}
use mathlib.Core.List.{List, ◌∷◌}
use Prim.Native.Nat.{ℕ, suc}
use lib.Dec.{T}
use Rattle.model.specs.Lists.{◌∈◌, All}
use Rattle.model.specs.Bits.{bit}
use Rattle.model.specs.Tree.{Alts, can_return, end, last, letter, Mark, more, optional, Seq, starred, union, unmarked}
use Rattle.model.specs.Edges.{alts_end, ends_of, seq_end, starts_of, ways}
use Rattle.model.specs.Ends.{AltsSpell}
use Rattle.model.proofs.Language.Arcs.{alts_arcs, Arc, arc, arcs, back_arc, branch_whole, Byte, fork_arc, letter_whole, propagate_arc, Still}
use Rattle.model.proofs.Language.Languages.{after_alts, after_letter, after_union, enter_union, Language, loop_in, skip_letter, take_in, union_empty_in, within}
use Rattle.model.proofs.Language.Stretches.{through_body, through_union}
use Rattle.model.proofs.Language.Texts.{at, byte, end_of, Has-alts, Has-texts, LeadsTo, start, start_of, still, to}
use Rattle.model.proofs.Laws.Lists.{all_app}
use Rattle.model.proofs.Words.Full.{first_start, last_end}

-- an arc carries a family of languages along
pub record Carries (L : ℕ → Language) (e : Arc) : Type 0 where
  pub still : (q r : ℕ) → Still e.kind e.from e.to q r → (w : List ℕ) → L q w → L r w
  pub byte : (b q r : ℕ) → Byte b e.kind e.from e.to q r → (w : List ℕ) → L q w → L r (b ∷ w)

pub leads_out : (E : Arc → Type 0) (L : ℕ → Language) → ((e : Arc) → E e → Carries L e) → ((w : List ℕ) → L 0 w) → {w : List ℕ} {q : ℕ} → LeadsTo E w q → L q w
leads_out E L c z (start {w = w}) = z w
leads_out E L c z (still {w = w} {q = q} {r = r} e i m h) = (c e i).still q r m w (leads_out E L c z h)
leads_out E L c z (byte {b = b} {w = w} {q = q} {r = r} e i m h) = (c e i).byte b q r m w (leads_out E L c z h)

-- ---- the languages W of a tree's states
module _ (W : ℕ → Language) where
  at_state : {i j : ℕ} {w : List ℕ} → i ≡ j → W i w → W j w
  at_state {w = w} e h = subst (λ (x : ℕ). W x w) e h

  along : (i j : ℕ) → ((w : List ℕ) → W i w → W j w) → (q r : ℕ) → (q ≡ i) × (r ≡ j) → (w : List ℕ) → W q w → W r w
  along i j f q r m w h = at_state (sym m.1) (f w (at_state m.0 h))

  skip_carries : (k i j : ℕ) → ((w : List ℕ) → W i w → W j w) → Carries W (arc propagate_arc k i j)
  skip_carries k i j f = record { still = along i j f; byte = λ b q r m. absurd m }

  return_carries : (k i j : ℕ) → ((w : List ℕ) → W i w → W j w) → Carries W (arc back_arc k i j)
  return_carries k i j f = record { still = along i j f; byte = λ b q r m. absurd m }

  by_byte : (c i j : ℕ) → ((b : ℕ) (w : List ℕ) → T (bit c b) → W i w → W j (b ∷ w))
      → (b q r : ℕ) → T (bit c b) × (q ≡ i) × (r ≡ j) → (w : List ℕ) → W q w → W r (b ∷ w)
  by_byte c i j f b q r m w h = at_state (sym m.2) (f b w m.0 (at_state m.1 h))

  starts_in : (a : Alts) (t p : ℕ) (P : Language) → Has-alts W a t p P → (r : ℕ) → r ∈ starts_of (ways a p) → (w : List ℕ) → P w → W r w
  starts_in (last s) t p P K r (inl e) w h = at_state (sym e) (to (start_of W s (suc p) P K) h)
  starts_in (last s) t p P K r (inr x) w h = absurd x
  starts_in (more s a) t p P K r (inl e) w h = at_state (sym e) (to (start_of W s (suc p) P K.0) h)
  starts_in (more s a) t p P K r (inr x) w h = starts_in a t (seq_end s (suc p)) P K.1 r x w h

  ends-in : (a : Alts) (t p : ℕ) (P : Language) → Has-alts W a t p P → (q : ℕ) → q ∈ ends_of (ways a p) → (w : List ℕ) → W q w → after_alts a P w
  ends-in (last s) t p P K q (inl e) w h = at (end_of W s (suc p) P K) (at_state e h)
  ends-in (last s) t p P K q (inr x) w h = absurd x
  ends-in (more s a) t p P K q (inl e) w h = inl (at (end_of W s (suc p) P K.0) (at_state e h))
  ends-in (more s a) t p P K q (inr x) w h = inr (ends-in a t (seq_end s (suc p)) P K.1 q x w h)

  -- THE THEOREM: every arc carries them along
  mutual
    pub carried : (s : Seq) (t k : ℕ) (P : Language) → Has-texts W s t P → All (Carries W) (arcs s t k)
    carried end t k P K = tt
    carried (letter c r s) t k P K =
        let n = start_of W s (suc t) (after_letter c r P) K.1 in
        letter_whole (Carries W) c r s t k (record {
          takes = record { still = λ q r m. absurd m; byte = by_byte c t (suc t) (λ b w x h. to n (take_in c r P b w x (at K.0 h))) };
          loops = λ l. record { still = λ q r m. absurd m; byte = by_byte c (suc t) (suc t) (λ b w x h. to n (loop_in c r P b w l x (at n h))) };
          skips = λ z. skip_carries k t (suc t) (λ w h. to n (skip_letter c r P w z (at K.0 h)));
          rest = carried s (suc t) k (after_letter c r P) K.1;
        })
    carried (union m a s) t k P K =
        branch_whole (Carries W) m a s t k (record {
          skips = λ z. skip_carries k t u (λ w h. to n (union_empty_in m a P w z (at K.0 h)));
          forks = record { still = fork; byte = λ b q r m. absurd m };
          returns = λ z. return_carries k (alts_end a t) (suc t) (λ w h. starts_in a t t (within m a P) K.1 (suc t) (first_start a t) w (back m z w (inner (alts_end a t) (last_end a t) w h)));
          alts = alts_carried a t t k (within m a P) K.1;
          rest = carried s (suc (alts_end a t)) k (after_union m a P) K.2;
        })
      where
        u : ℕ
        u = suc (alts_end a t)

        n : W u ≡ after_union m a P
        n = start_of W s u (after_union m a P) K.2

        inner : (q : ℕ) → q ∈ ends_of (ways a t) → (w : List ℕ) → W q w → after_alts a (within m a P) w
        inner q i w h = ends-in a t t (within m a P) K.1 q i w h

        back : (m : Mark) → T (can_return m) → (w : List ℕ) → after_alts a (within m a P) w → within m a P w
        back unmarked z w h = absurd z
        back optional z w h = absurd z
        back starred z w h = through_body a P w h

        fork : (q r : ℕ) → Still (fork_arc (ways a t)) t u q r → (w : List ℕ) → W q w → W r w
        fork q r (inl x) w h = starts_in a t t (within m a P) K.1 r x.1 w (enter_union m (AltsSpell a) P w (at K.0 (at_state x.0 h)))
        fork q r (inr x) w h = at_state (sym x.1) (to n (through_union m a P w (inner q x.0 w h)))

    alts_carried : (a : Alts) (t p k : ℕ) (P : Language) → Has-alts W a t p P → All (Carries W) (alts_arcs a p k)
    alts_carried (last s) t p k P K = carried s (suc p) (suc k) P K
    alts_carried (more s a) t p k P K =
        let z = seq_end s (suc p) in
        all_app (Carries W) (arcs s (suc p) (suc k)) (alts_arcs a z k) (carried s (suc p) (suc k) P K.0) (alts_carried a t z k P K.1)
