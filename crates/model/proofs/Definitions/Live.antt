-- The live states of document 01 are the bits that two rounds of the passes set: before any byte, after one from any set of states, and so after a text.
use mathlib.Core.Path.{◌≡◌, refl, sym, subst}
use mathlib.Core.Logic.{◌⊎◌, inl, inr, ◌↔◌}
use mathlib.Core.Bool.{Bool}
use mathlib.Core.List.{List, [], ◌∷◌}
use Prim.Native.Nat.{ℕ}
use lib.Dec.{T, eqb→eq, eqb_refl}
use Rattle.model.specs.Tree.{Tree}
use Rattle.model.specs.Live.{After, Before, Free, Live, LiveFrom, Reached, Takes}
use Rattle.model.proofs.Definitions.Along.{StillAlong}
use Rattle.model.proofs.Definitions.Free.{free_is}
use Rattle.model.proofs.Definitions.Takes.{takes_is}
use Rattle.model.proofs.Ends.Run.{live_set, Moved, moved, moved_in, moved_out, start_set, still_free}
use Rattle.model.proofs.Language.Arcs.{arc, arcs, back_arc, fork_arc, propagate_arc}
use Rattle.model.proofs.Language.Languages.{feed}
use Rattle.model.proofs.Passes.Closure.{reached_map, reached_more}
use Rattle.model.proofs.Passes.OnTrees.{Silent}
use Rattle.model.proofs.Words.Full.{Full}
use Rattle.model.proofs.Words.Rounds.{bits_are, closed}

module _ (t : Tree) where
  after_map : (b : ℕ) {D E : ℕ → Type 0} → ((q : ℕ) → D q → E q) → (q : ℕ) → After t b D q → After t b E q
  after_map b {D} {E} f q = reached_more go
    where
      go : (r : ℕ) → (r ≡ 0) ⊎ ((q : ℕ) × D q × Takes t b q r) → (r ≡ 0) ⊎ ((q : ℕ) × E q × Takes t b q r)
      go r (inl e) = inl e
      go r (inr m) = inr (m.0, f m.0 m.1, m.2)

  -- and so do the live states
  pub live_map : (text : List ℕ) {D E : ℕ → Type 0} → ((q : ℕ) → D q → E q) → (q : ℕ) → LiveFrom t D text q → LiveFrom t E text q
  live_map [] f q h = f q h
  live_map (b ∷ text) f q h = live_map text (after_map b f) q h

module _ (t : Tree) (F : Full t) where
  pub silent_free : (q r : ℕ) → Silent t q r → Free t q r
  silent_free q r h = (free_is t q r).1 (go h)
    where
      go : Silent t q r → StillAlong (arcs t 0 0) q r
      go (inl (inl e)) = (arc propagate_arc e.0 q r, e.1, (refl, refl))
      go (inl (inr (inl e))) = (arc (fork_arc e.1.0) e.0 e.1.1 r, e.1.2, inr (e.1.3, refl))
      go (inl (inr (inr e))) = (arc (fork_arc e.1.0) e.0 q e.1.1, e.1.2, inl (refl, e.1.3))
      go (inr e) = (arc back_arc e.0 q r, e.1, (refl, refl))

  pub free_silent : (q r : ℕ) → Free t q r → Silent t q r
  free_silent q r h = let a = (free_is t q r).0 h in still_free t F a.0.kind a.0.level a.0.from a.0.to q r a.1 a.2

  -- the two rounds from any set give what the edges without a letter reach
  pub closed_is : (D : ℕ → Bool) (q : ℕ) → T (closed t F D q) ↔ Reached (Free t) (λ x. T (D x)) q
  closed_is D q = (
    λ h. reached_map silent_free (λ x k. k) ((bits_are t F D q).0 h),
    λ h. (bits_are t F D q).1 (reached_map free_silent (λ x k. k) h),
  )

  -- BEFORE ANY BYTE
  pub before_is : (q : ℕ) → T (closed t F start_set q) ↔ Before t q
  before_is q = (
    λ h. reached_more (λ x k. eqb→eq x 0 k) ((closed_is start_set q).0 h),
    λ h. (closed_is start_set q).1 (reached_more (λ x k. subst (λ (y : ℕ). T (start_set y)) (sym k) (eqb_refl 0)) h),
  )

  -- AFTER A BYTE, from any set of states
  pub after_is : (b : ℕ) (D : ℕ → Bool) (q : ℕ) → T (closed t F (moved (arcs t 0 0) b D) q) ↔ After t b (λ x. T (D x)) q
  after_is b D q = (
    λ h. reached_more (λ x k. there x (moved_out t F b D x k)) ((closed_is (moved (arcs t 0 0) b D) q).0 h),
    λ h. (closed_is (moved (arcs t 0 0) b D) q).1 (reached_more back h),
  )
    where
      Moves : ℕ → Type 0
      Moves r = (r ≡ 0) ⊎ ((q : ℕ) × T (D q) × Takes t b q r)

      there : (x : ℕ) → Moved t F b D x → Moves x
      there x (inl e) = inl e
      there x (inr m) = inr (m.1, m.4, (takes_is t b m.1 x).1 (m.0, m.2, m.3))

      back : (x : ℕ) → Moves x → T (moved (arcs t 0 0) b D x)
      back x (inl e) = subst (λ (y : ℕ). T (moved (arcs t 0 0) b D y)) (sym e) tt
      back x (inr m) = let a = (takes_is t b m.0 x).0 m.2 in moved_in t F b D a.0 m.0 x a.1 a.2 m.1

  -- after the bytes w, the last one first, and then those of a text
  live_on : (w text : List ℕ) (q : ℕ) → T (live_set t F (feed w text) q) ↔ LiveFrom t (λ x. T (live_set t F w x)) text q
  live_on w [] q = (λ h. h, λ h. h)
  live_on w (b ∷ text) q = (
    λ h. live_map t text (λ x. (after_is b (live_set t F w) x).0) q ((live_on (b ∷ w) text q).0 h),
    λ h. (live_on (b ∷ w) text q).1 (live_map t text (λ x. (after_is b (live_set t F w) x).1) q h),
  )

  -- AFTER A TEXT
  pub live_is : (text : List ℕ) (q : ℕ) → T (live_set t F (feed [] text) q) ↔ Live t text q
  live_is text q = (
    λ h. live_map t text (λ x. (before_is x).0) q ((live_on [] text q).0 h),
    λ h. (live_on [] text q).1 (live_map t text (λ x. (before_is x).1) q h),
  )
