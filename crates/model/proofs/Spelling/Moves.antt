-- WHAT A BYTE ENTERS AND WHAT IT LEAVES, on sets of states: from a set the states that an edge or loop taking the byte leads to, by the shift and the two
-- sets of the byte; and from a set the states that such an edge or loop leaves, by the shift the other way.
use mathlib.Core.Path.{◌≡◌, refl, sym, subst}
use mathlib.Core.Logic.{◌⊎◌, inl, inr, ◌↔◌}
use mathlib.Core.Bool.{Bool, ◌&&◌, ◌||◌}
use Prim.Native.Nat.{ℕ, zero, suc}
use native.Mathlib.Omega.{arith}
use lib.Dec.{T, eqb, eqb→eq, eqb_refl}
use Rattle.model.specs.Tree.{Tree}
use Rattle.model.specs.Live.{Takes}
use Rattle.model.proofs.Definitions.Below.{takes_rises}
use Rattle.model.proofs.Definitions.Takes.{takes_is}
use Rattle.model.proofs.Ends.Run.{letter_set, loops_byte, loop_set, Moved, moved_in, moved_out}
use Rattle.model.proofs.Language.Arcs.{ArcKind, arcs, back_arc, Byte, fork_arc, letter_arc, loop_arc, propagate_arc}
use Rattle.model.proofs.Laws.Bool.{and_both, and_split, or_left, or_right, or_split}
use Rattle.model.proofs.Laws.Lists.{any_out}
use Rattle.model.proofs.Words.Full.{Full}
use Rattle.model.proofs.Words.Operations.{next}

module _ (t : Tree) (F : Full t) (b : ℕ) where
  abbrev L : ℕ → Bool
  L = letter_set (arcs t 0 0) b

  abbrev P : ℕ → Bool
  P = loop_set (arcs t 0 0) b

  -- the edges that take the byte, by the two sets
  takes_sets : (q x : ℕ) → Takes t b q (suc x) ↔ (((q ≡ x) × T (L (suc x))) ⊎ ((q ≡ suc x) × T (P (suc x))))
  takes_sets q x = (there, back)
    where
      D : ℕ → Bool
      D y = eqb y q

      there : Takes t b q (suc x) → ((q ≡ x) × T (L (suc x))) ⊎ ((q ≡ suc x) × T (P (suc x)))
      there k =
          let a = (takes_is t b q (suc x)).0 k in
          elim (or_split (D x && L (suc x)) (D (suc x) && P (suc x)) (moved_in t F b D a.0 q (suc x) a.1 a.2 (eqb_refl q))) [
            | inl h ↦ let c = and_split (D x) (L (suc x)) h in inl (sym (eqb→eq x q c.0), c.1)
            | inr h ↦ let c = and_split (D (suc x)) (P (suc x)) h in inr (sym (eqb→eq (suc x) q c.0), c.1)
          ]

      out : Moved t F b D (suc x) → Takes t b q (suc x)
      out (inl e) = absurd (omega (arith, e))
      out (inr (e, y, i, m, h)) = subst (λ (z : ℕ). Takes t b z (suc x)) (eqb→eq y q h) ((takes_is t b y (suc x)).1 (e, i, m))

      back : ((q ≡ x) × T (L (suc x))) ⊎ ((q ≡ suc x) × T (P (suc x))) → Takes t b q (suc x)
      back (inl (e, h)) = out (moved_out t F b D (suc x) (or_left (D x && L (suc x)) (D (suc x) && P (suc x)) (and_both (D x) (L (suc x)) (subst (λ (z : ℕ). T (eqb x z)) (sym e) (eqb_refl x)) h)))
      back (inr (e, h)) = out (moved_out t F b D (suc x) (or_right (D x && L (suc x)) (D (suc x) && P (suc x)) (and_both (D (suc x)) (P (suc x)) (subst (λ (z : ℕ). T (eqb (suc x) z)) (sym e) (eqb_refl (suc x))) h)))

  -- state 0 has no loop
  no_loop : T (P 0) → ⊥
  no_loop h = let r = any_out (λ e. loops_byte b e.kind && eqb 0 e.to) (arcs t 0 0) h in
      let c = and_split (loops_byte b r.0.kind) (eqb 0 r.0.to) r.2 in
      let e = eqb→eq 0 r.0.to c.1 in
      omega (arith, (takes_rises t b r.0.from r.0.to ((takes_is t b r.0.from r.0.to).1 (r.0, r.1, way r.0.kind r.0.from r.0.to c.0))).1)
    where
      way : (w : ArcKind) (i j : ℕ) → T (loops_byte b w) → Byte b w i j i j
      way (letter_arc c) i j h = absurd h
      way (loop_arc c) i j h = (h, refl, refl)
      way propagate_arc i j h = absurd h
      way (fork_arc xs) i j h = absurd h
      way back_arc i j h = elim h [ ]

  module _ (D : ℕ → Bool) where
    -- WHAT IS ENTERED from a set
    abbrev pub entered : ℕ → Bool
    entered r = (next D r && L r) || (D r && P r)

    pub entered_is : (r : ℕ) → T (entered r) ↔ ((q : ℕ) × T (D q) × Takes t b q r)
    entered_is zero = (
      λ h. absurd (no_loop (and_split (D 0) (P 0) h).1),
      λ (q, d, k). absurd (omega (arith, (takes_rises t b q 0 k).1)),
    )
    entered_is (suc x) = (
      λ h. elim (or_split (D x && L (suc x)) (D (suc x) && P (suc x)) h) [
        | inl k ↦ let c = and_split (D x) (L (suc x)) k in (x, c.0, (takes_sets x x).1 (inl (refl, c.1)))
        | inr k ↦ let c = and_split (D (suc x)) (P (suc x)) k in (suc x, c.0, (takes_sets (suc x) x).1 (inr (refl, c.1)))
      ],
      λ (q, d, k). elim ((takes_sets q x).0 k) [
        | inl (e, h) ↦ or_left (D x && L (suc x)) (D (suc x) && P (suc x)) (and_both (D x) (L (suc x)) (subst (λ (z : ℕ). T (D z)) e d) h)
        | inr (e, h) ↦ or_right (D x && L (suc x)) (D (suc x) && P (suc x)) (and_both (D (suc x)) (P (suc x)) (subst (λ (z : ℕ). T (D z)) e d) h)
      ],
    )

    -- WHAT IS LEFT for a set
    abbrev pub left : ℕ → Bool
    left q = (D (suc q) && L (suc q)) || (D q && P q)

    pub left_is : (q : ℕ) → T (left q) ↔ ((r : ℕ) × T (D r) × Takes t b q r)
    left_is q = (there, back)
      where
        loop : (x : ℕ) → q ≡ x → T (D x && P x) → (r : ℕ) × T (D r) × Takes t b q r
        loop zero e h = absurd (no_loop (and_split (D 0) (P 0) h).1)
        loop (suc x) e h = let c = and_split (D (suc x)) (P (suc x)) h in (suc x, c.0, (takes_sets q x).1 (inr (e, c.1)))

        there : T (left q) → (r : ℕ) × T (D r) × Takes t b q r
        there h = elim (or_split (D (suc q) && L (suc q)) (D q && P q) h) [
          | inl k ↦ let c = and_split (D (suc q)) (L (suc q)) k in (suc q, c.0, (takes_sets q q).1 (inl (refl, c.1)))
          | inr k ↦ loop q refl k
        ]

        from : (x : ℕ) → T (D (suc x)) → ((q ≡ x) × T (L (suc x))) ⊎ ((q ≡ suc x) × T (P (suc x))) → T (left q)
        from x d (inl (e, h)) = subst (λ (z : ℕ). T (left z)) (sym e) (or_left (D (suc x) && L (suc x)) (D x && P x) (and_both (D (suc x)) (L (suc x)) d h))
        from x d (inr (e, h)) = subst (λ (z : ℕ). T (left z)) (sym e) (or_right (D (suc (suc x)) && L (suc (suc x))) (D (suc x) && P (suc x)) (and_both (D (suc x)) (P (suc x)) d h))

        to : (r : ℕ) → T (D r) → Takes t b q r → T (left q)
        to zero d k = absurd (omega (arith, (takes_rises t b q 0 k).1))
        to (suc x) d k = from x d ((takes_sets q x).0 k)

        back : (r : ℕ) × T (D r) × Takes t b q r → T (left q)
        back (r, d, k) = to r d k
