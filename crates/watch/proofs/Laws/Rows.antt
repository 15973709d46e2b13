-- THE ROWS OF THE TWO TABLES, from what the check says of the image, the test of the mask and the run.
use mathlib.Core.Path.{◌≡◌, refl, sym, ap, ap₂, ◌∙◌, subst}
use mathlib.Core.Logic.{◌↔◌}
use mathlib.Core.Bool.{Bool, true, false, not}
use mathlib.Core.List.{List}
use Prim.Native.Nat.{ℕ, ◌+◌, ◌-◌, ◌%◌, ◌^◌, ◌≤◌, ◌<◌}
use native.Mathlib.Nat.{le_refl}
use native.Mathlib.Omega.{arith}
use lib.Dec.{T}
use lib.ListN.{length, take}
use lib.Seq.{sets}
use Rattle.std.specs.Prelude.{None, Option, Some}
use Rattle.model.specs.Answers.{gives, ImageOf}
use Rattle.model.specs.Bits.{bit}
use Rattle.model.specs.Edges.{accepting, states}
use Rattle.model.specs.Image.{width}
use Rattle.model.specs.Live.{Before}
use Rattle.model.specs.Models.Run.{noted}
use Rattle.model.specs.Models.Words.{Fit, is_mask, value}
use Rattle.model.specs.Tree.{Tree}
use Rattle.model.specs.Watch.{BeginSays, begun, goes_on, IsMask, not_a_mask, not_an_image, stays, stepped, StepSays, stretch_too_long, text_too_long, watch}
use Rattle.model.proofs.Laws.Bool.{not-false, not-true}
use Rattle.model.proofs.Laws.Stores.{sets_fit}
use Rattle.model.proofs.Watch.Ends.{ends_zero}
use Rattle.model.proofs.Watch.Masks.{mask_test}
use Rattle.run.specs.Says as run
use Rattle.run.specs.Work.{Goes}
use Rattle.image_sections.specs.Sections.{Placed}
use Rattle.image_sections.specs.declared.Sections.{Sections}
use Rattle.image_sections.proofs.Laws.Within.{own_states, within}
use Rattle.run.proofs.Image.Stretch.{states_mask}
use Rattle.image_check.specs.Says.{CheckSays}
use Rattle.image_check.specs.declared.Checked.{Checked}
use Rattle.image_check.proofs.Laws.Found.{Found, found, not_found, words_found}
use Rattle.run_word.proofs.Laws.Stretch.{noted_few}

module _ {ws : List ℕ} {r : Option Checked} {c : Checked} (C : CheckSays ws r) (g : r ≡ Some c) where
  abbrev p : Sections
  p = c.image.sections

  abbrev F : Found ws p c.tape
  F = found ws C g

  abbrev t : Tree
  t = F.tree

  abbrev I : ImageOf ws t
  I = F.image_of

  -- the words of the image that the check hands on are those that it was given
  own : c.image.words.now ≡ ws
  own = words_found ws C g

  -- ---- the numbers that the check hands on
  placed : Placed ws p
  placed = F.placed

  width_is : p.width ≡ width (states t)
  width_is = ap (λ (q : Sections). q.width) F.sections_are

  states_are : p.states ≡ states t
  states_are = ap (λ (q : Sections). q.states) F.sections_are

  pub some_states : 1 ≤ p.states
  some_states = omega (arith, own_states placed, placed.some)

  pub narrow : p.width ≤ 8
  narrow = (within placed).narrow

  -- ---- BEGIN
  module _ {mask : List ℕ} {place : ℕ} {ends : List ℕ} where
    pub begin_words : (length mask ≡ p.width → ⊥) → BeginSays ws mask place ends (stays 9 mask place ends)
    begin_words f = not_a_mask t I (λ e. f (e ∙ sym width_is)) refl

    pub begin_done : length mask ≡ p.width → (words : List ℕ) → length words ≡ 8 → Fit words → run.BeginSays c.image.words.now words
        → (hit : Bool) → hit ≡ bit (value words) (p.states - 1) → {total : ℕ} → total ≡ (0 + length (noted hit 0)) % 2 ^ 64 → {after new : List ℕ}
        → after ≡ sets ends 0 (noted hit 0) → new ≡ take p.width words
        → BeginSays ws mask place ends (gives total (watch new 0 after))
    begin_done long words eight fits B hit looked {total} counts {after} {new} writes laid =
        begun t (take (width (states t)) words) (noted hit 0) I (long ∙ width_is) (states_mask t I.few words (Before t) eight fits A) (ends_zero t I.is_rule hit is)
        (ap₂ (λ (n : ℕ) (e : List ℕ). gives n (watch new 0 e)) total_is (writes ∙ sets_fit ends (noted hit 0))
        ∙ ap (λ (m : List ℕ). goes_on m 0 (noted hit 0) ends) (laid ∙ ap (λ (n : ℕ). take n words) width_is))
      where
        A : run.StatesAre t words (Before t)
        A = subst (λ (xs : List ℕ). run.BeginSays xs words) own B t I

        last_is : p.states - 1 ≡ accepting t
        last_is = omega (arith, states_are)

        same : hit ≡ bit (value words) (accepting t)
        same = looked ∙ ap (bit (value words)) last_is

        is : T hit ↔ Before t (accepting t)
        is = let a = A.within (accepting t) (le_refl (states t)) in (λ h. a.0 (subst T same h), λ h. subst T (sym same) (a.1 h))

        total_is : total ≡ length (noted hit 0)
        total_is = omega (arith, counts, noted_few hit 0)

  -- ---- STEP
  pub step_long : {mask : List ℕ} {place : ℕ} {stretch ends : List ℕ} → 65535 < length stretch → StepSays ws mask place stretch ends (stays 7 mask place ends)
  step_long l = stretch_too_long t I l refl

  module _ {mask : List ℕ} (fits : Fit mask) {b : Bool} (test : b ≡ is_mask p.states mask) where
    is : T b ↔ IsMask (states t) mask
    is =
        let k : b ≡ is_mask (states t) mask = test ∙ ap (λ (m : ℕ). is_mask m mask) states_are in
        let h = mask_test (states t) (omega arith) mask fits in
        (λ y. h.0 (subst T k y), λ M. subst T (sym k) (h.1 M))

    pub step_mask : {place : ℕ} {stretch ends : List ℕ} → length stretch ≤ 65535 → not b ≡ true → StepSays ws mask place stretch ends (stays 9 mask place ends)
    step_mask small n = not_a_mask t I small (λ M. subst T (not-true b n) (is.1 M)) refl

    module _ (passed : not b ≡ false) where
      M : IsMask (states t) mask
      M = is.0 (subst T (sym (not-false b passed)) tt)

      pub step_past : {place : ℕ} {stretch ends : List ℕ} → length stretch ≤ 65535 → 4294967295 - length stretch < place
          → StepSays ws mask place stretch ends (stays 10 mask place ends)
      step_past small l = text_too_long t I small M (omega arith) refl

      module _ {place : ℕ} {stretch : List ℕ} (small : length stretch ≤ 65535) (near : place ≤ 4294967295 - length stretch) where
        pub goes : Goes c.image.words.now p mask place stretch
        goes = record { placed = c.image.placed; long = M.long ∙ sym width_is; limits = record { small = small; near = omega arith; few = omega arith } }

        pub step_done : {ends words : List ℕ} {total : ℕ} {after new : List ℕ} → run.GoOnSays c.image.words.now mask place stretch ends words total after → new ≡ take p.width words
            → StepSays ws mask place stretch ends (gives total (watch new (place + length stretch) after))
        step_done {ends} {words} {total} {after} {new} G laid =
            let R = subst (λ (xs : List ℕ). run.GoOnSays xs mask place stretch ends words total after) own G t I M in
            stepped t (take (width (states t)) words) R.found I small M (omega arith) R.live R.ends
            (ap₂ (λ (n : ℕ) (l : List ℕ). gives n (watch new (place + length stretch) l)) R.counted R.stored
            ∙ ap (λ (m : List ℕ). goes_on m (place + length stretch) R.found ends) (laid ∙ ap (λ (n : ℕ). take n words) width_is))

pub begin_other : {ws mask : List ℕ} {place : ℕ} {ends : List ℕ} {r : Option Checked} → CheckSays ws r → r ≡ None
    → BeginSays ws mask place ends (stays 6 mask place ends)
begin_other {ws} C g = not_an_image (not_found ws C g) refl

pub step_other : {ws mask : List ℕ} {place : ℕ} {stretch ends : List ℕ} {r : Option Checked} → CheckSays ws r → r ≡ None
    → StepSays ws mask place stretch ends (stays 6 mask place ends)
step_other {ws} C g = not_an_image (not_found ws C g) refl
