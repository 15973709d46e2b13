-- THE RUN OVER A STRETCH, on masks that hold the tree's sets: from any live words it leaves those of document 01's live states, and it finds the ends. For
-- each byte's words hold the set that the edges reach. A whole text is a beginning and one stretch.
use mathlib.Core.Path.{◌≡◌, refl, sym, subst, ◌∙◌}
use mathlib.Core.Logic.{◌↔◌}
use mathlib.Core.Bool.{Bool}
use mathlib.Core.List.{List, [], ◌∷◌}
use Prim.Native.Nat.{ℕ, ◌+◌, ◌<◌}
use native.Mathlib.Nat.{le_refl}
use lib.Dec.{T}
use Rattle.model.specs.Bits.{bit}
use Rattle.model.specs.Edges.{accepting, depth, states}
use Rattle.model.specs.Ends.{EndsAre}
use Rattle.model.specs.Grammar.{IsRule}
use Rattle.model.specs.Image.{width}
use Rattle.model.specs.Live.{Before, LiveFrom}
use Rattle.model.specs.Models.Run.{close_words, ends_after, ends_with, Masks, noted, run_from, step_words}
use Rattle.model.specs.Models.Words.{Fit, value}
use Rattle.model.specs.Tree.{Tree}
use Rattle.model.specs.Watch.{EndsIn, In, IsMask, MaskOf}
use Rattle.model.proofs.Definitions.Live.{after_is, before_is}
use Rattle.model.proofs.Ends.Run.{moved, start_set}
use Rattle.model.proofs.Language.Arcs.{arcs}
use Rattle.model.proofs.Laws.Bool.{is_not}
use Rattle.model.proofs.Watch.Ends.{ends_app, ends_as, ends_byte, ends_none, ends_whole, ends_zero}
use Rattle.model.proofs.Watch.Live.{live_as}
use Rattle.model.proofs.Watch.Masks.{holds_mask, in_value}
use Rattle.model.proofs.Words.Full.{Full}
use Rattle.model.proofs.Words.Holds.{Holds}
use Rattle.model.proofs.Words.Rounds.{closed}
use Rattle.model.proofs.Words.Run.{Bytes, Carry, rounds_words, step-words}

module _ (t : Tree) (F : Full t) (W : ℕ) (N : Masks) (C : Carry (states t) W t N) where
  -- ---- the sets of the run
  abbrev first : ℕ → Bool
  first = closed t F start_set

  abbrev next : ℕ → (ℕ → Bool) → ℕ → Bool
  next b f = closed t F (moved (arcs t 0 0) b f)

  abbrev set_from : (ℕ → Bool) → List ℕ → ℕ → Bool
  set_from f [] = f
  set_from f (b ∷ rest) = set_from (next b f) rest

  set_live : (f : ℕ → Bool) (rest : List ℕ) (q : ℕ) → T (set_from f rest q) ↔ LiveFrom t (λ x. T (f x)) rest q
  set_live f [] q = (λ h. h, λ h. h)
  set_live f (b ∷ rest) q =
      let a = set_live (next b f) rest q in
      let l = live_as t rest (after_is t F b f) q in
      (λ h. l.0 (a.0 h), λ h. a.1 (l.1 h))

  -- ---- the words hold them
  first_holds : Holds (states t) W (close_words N (depth t) N.start_mask) first
  first_holds = rounds_words (states t) W t F N C N.start_mask start_set C.start

  next_holds : (b : ℕ) → b < 256 → (live : List ℕ) (f : ℕ → Bool) → Holds (states t) W live f → Holds (states t) W (step_words N (depth t) b live) (next b f)
  next_holds = step-words (states t) W t F N C

  run_holds : (live : List ℕ) (f : ℕ → Bool) (rest : List ℕ) → Bytes rest → Holds (states t) W live f → Holds (states t) W (run_from N (depth t) live rest) (set_from f rest)
  run_holds live f [] B H = H
  run_holds live f (b ∷ rest) B H = run_holds (step_words N (depth t) b live) (next b f) rest B.1 (next_holds b B.0 live f H)

  -- the accepting state's bit
  looked_up : (live : List ℕ) (f : ℕ → Bool) → Holds (states t) W live f → {D : ℕ → Type 0} → ((q : ℕ) → T (f q) ↔ D q) → T (bit (value live) (accepting t)) ↔ D (accepting t)
  looked_up live f H is =
      let e = H.near.bits (accepting t) (le_refl (states t)) in
      let a = is (accepting t) in
      (λ h. a.0 (subst T e h), λ h. subst T (sym e) (a.1 h))

  -- ---- THE ENDS of a stretch, from words that hold a set
  set_ends : (live : List ℕ) (f : ℕ → Bool) (place : ℕ) (rest : List ℕ) → Bytes rest → Holds (states t) W live f
      → EndsIn t (λ q. T (f q)) place rest (ends_after N (depth t) (accepting t) place live rest)
  set_ends live f place [] B H = ends_none t (λ q. T (f q)) place
  set_ends live f place (b ∷ rest) B H =
      let on = step_words N (depth t) b live in
      let K = next_holds b B.0 live f H in
      ends_app t {u = b ∷ []} {v = rest} (ends_byte t (λ q. T (f q)) b place (bit (value on) (accepting t)) (looked_up on (next b f) K (after_is t F b f)))
      (ends_as t (after_is t F b f) (set_ends on (next b f) (place + 1) rest B.1 K))

  -- ---- A BEGINNING: the live states before any byte, and place 0
  module _ (long : W ≡ width (states t)) where
    pub first_mask : MaskOf (states t) (Before t) (close_words N (depth t) N.start_mask)
    first_mask = record {
      set = first;
      is = λ q l. before_is t F q;
      laid = holds_mask (states t) (close_words N (depth t) N.start_mask) first
          (subst (λ (n : ℕ). Holds (states t) n (close_words N (depth t) N.start_mask) first) long first_holds);
    }

  pub first_ends : {rule : List ℕ} → IsRule rule t → EndsAre t [] (noted (bit (value (close_words N (depth t) N.start_mask)) (accepting t)) 0)
  first_ends R = ends_zero t R (bit (value (close_words N (depth t) N.start_mask)) (accepting t)) (looked_up (close_words N (depth t) N.start_mask) first first_holds (before_is t F))

  -- A WHOLE TEXT
  pub whole_ends : {rule : List ℕ} → IsRule rule t → (text : List ℕ) → Bytes text → EndsAre t text (ends_with N (depth t) (accepting t) text)
  whole_ends R text B =
      ends_whole t R (first_ends R) (ends_as t (before_is t F) (set_ends (close_words N (depth t) N.start_mask) first 0 text B first_holds))

  -- ---- A STRETCH FROM THE STATES OF A MASK
  module _ (mask : List ℕ) (long : W ≡ width (states t)) (fits : Fit mask) (I : IsMask (states t) mask) where
    abbrev f : ℕ → Bool
    f q = bit (value mask) q

    own : (q : ℕ) → T (f q) ↔ In mask q
    own q = let e = in_value mask fits q in (e.1, e.0)

    mask_holds : Holds (states t) W mask f
    mask_holds = record {
      near = record { len = I.long ∙ sym long; fit = fits; bits = λ x l. refl };
      none = λ q l. is_not (f q) (λ h. I.none_past q l ((own q).0 h));
    }

    module _ (stretch : List ℕ) (B : Bytes stretch) where
      pub stretch_ends : (place : ℕ) → EndsIn t (In mask) place stretch (ends_after N (depth t) (accepting t) place mask stretch)
      stretch_ends place = ends_as t own (set_ends mask f place stretch B mask_holds)

      pub stretch_mask : MaskOf (states t) (LiveFrom t (In mask) stretch) (run_from N (depth t) mask stretch)
      stretch_mask = record {
        set = set_from f stretch;
        is = λ q l. let a = set_live f stretch q in let b = live_as t stretch own q in (λ h. b.0 (a.0 h), λ h. a.1 (b.1 h));
        laid = holds_mask (states t) (run_from N (depth t) mask stretch) (set_from f stretch)
            (subst (λ (n : ℕ). Holds (states t) n (run_from N (depth t) mask stretch) (set_from f stretch)) long (run_holds mask f stretch B mask_holds));
      }
