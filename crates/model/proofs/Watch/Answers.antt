-- THE TABLES OF BEGIN AND STEP GIVE EACH INPUT OF WORDS AND BYTES EXACTLY ONE ANSWER: the one that the verdict on the words, the test of the mask and the run
-- on the tree's own masks decide. A refusal leaves the watch where it was, and so does a stretch of no bytes.
use mathlib.Core.Path.{◌≡◌, refl, sym, ap, ap₂, ◌∙◌, subst}
use mathlib.Core.Logic.{◌⊎◌, inl, inr, ◌≢◌}
use mathlib.Core.Bool.{Bool, true, false, cond}
use mathlib.Core.List.{List, [], ◌++◌}
use mathlib.Core.Option.{Option, none, some}
use Prim.Native.Nat.{ℕ, ◌+◌, ◌≤◌, ◌<◌}
use native.Mathlib.Nat.{le_refl}
use native.Mathlib.Omega.{arith}
use lib.Dec.{T, eqb, eqb→eq, eqb_refl, leb}
use lib.ListN.{length}
use lib.Seq.{take-nil}
use Rattle.model.specs.Answers.{ImageOf}
use Rattle.model.specs.Bits.{bit}
use Rattle.model.specs.Edges.{accepting, depth, states}
use Rattle.model.specs.Ends.{EndsAre}
use Rattle.model.specs.Image.{width}
use Rattle.model.specs.Live.{Before, LiveFrom}
use Rattle.model.specs.Models.Run.{close_words, ends_after, Masks, noted, run_from}
use Rattle.model.specs.Models.Verdict.{verdict}
use Rattle.model.specs.Models.Words.{Fit, is_mask, value}
use Rattle.model.specs.Tree.{Tree}
use Rattle.model.specs.Watch.{BeginSays, begun, EndsIn, goes_on, In, IsMask, MaskOf, not_a_mask, not_an_image, stays, stepped, StepSays, stretch_too_long, text_too_long, Watched}
use Rattle.model.proofs.Answers.One.{one_answer}
use Rattle.model.proofs.Definitions.EndsList.{ends_one}
use Rattle.model.proofs.Image.Decided.{by_verdict, on_image, on_other, rule_full}
use Rattle.model.proofs.Image.Rows.{room}
use Rattle.model.proofs.Laws.Bool.{is_not, is_true, le_false, le_or_lt, le_true, unequal}
use Rattle.model.proofs.Watch.Ends.{ends_in_one}
use Rattle.model.proofs.Watch.Masks.{mask_one, mask_test}
use Rattle.model.proofs.Watch.Stretch.{first_ends, first_mask, stretch_ends, stretch_mask}
use Rattle.model.proofs.Words.ImageRun.{tree_carry, tree_masks}
use Rattle.model.proofs.Words.Run.{Bytes, Carry}

-- ---- the answers, computed on the tree's own masks
abbrev own : Tree → Masks
own t = tree_masks (states t) (width (states t)) t

abbrev first_of : Tree → List ℕ
first_of t = close_words (own t) (depth t) (own t).start_mask

abbrev zero_of : Tree → List ℕ
zero_of t = noted (bit (value (first_of t)) (accepting t)) 0

abbrev begin_of : Option Tree → (mask : List ℕ) (place : ℕ) (ends : List ℕ) → Watched
begin_of none mask place ends = stays 6 mask place ends
begin_of (some t) mask place ends = cond (eqb (length mask) (width (states t))) (goes_on (first_of t) 0 (zero_of t) ends) (stays 9 mask place ends)

abbrev pub begin_answer : (words mask : List ℕ) (place : ℕ) (ends : List ℕ) → Watched
begin_answer words = begin_of (verdict words)

abbrev run_of : Tree → (mask : List ℕ) (place : ℕ) (stretch ends : List ℕ) → Watched
run_of t mask place stretch ends =
    goes_on (run_from (own t) (depth t) mask stretch) (place + length stretch) (ends_after (own t) (depth t) (accepting t) place mask stretch) ends

abbrev step_of : Option Tree → (mask : List ℕ) (place : ℕ) (stretch ends : List ℕ) → Watched
step_of none mask place stretch ends = stays 6 mask place ends
step_of (some t) mask place stretch ends =
    cond (leb (length stretch) 65535)
    (cond (is_mask (states t) mask) (cond (leb (place + length stretch) 4294967295) (run_of t mask place stretch ends) (stays 10 mask place ends)) (stays 9 mask place ends))
    (stays 7 mask place ends)

abbrev pub step_answer : (words mask : List ℕ) (place : ℕ) (stretch ends : List ℕ) → Watched
step_answer words = step_of (verdict words)

-- ---- the masks of a tree hold its sets
carry : (t : Tree) → Carry (states t) (width (states t)) t (own t)
carry t = tree_carry (states t) (width (states t)) t (room (states t)) (le_refl (states t))

-- ---- BEGIN
module _ (words mask : List ℕ) (place : ℕ) (ends : List ℕ) where
  abbrev Begins : Watched → Type 0
  Begins = BeginSays words mask place ends

  abbrev begins : Option Tree → Watched
  begins o = begin_of o mask place ends

  wide : (t : Tree) → length mask ≡ width (states t) → eqb (length mask) (width (states t)) ≡ true
  wide t e = is_true (eqb (length mask) (width (states t))) (subst (λ (n : ℕ). T (eqb n (width (states t)))) (sym e) (eqb_refl (width (states t))))

  module _ (t : Tree) (I : ImageOf words t) where
    live : MaskOf (states t) (Before t) (first_of t)
    live = first_mask t (rule_full t I.is_rule) (width (states t)) (own t) (carry t) refl

    zero_end : EndsAre t [] (zero_of t)
    zero_end = first_ends t (rule_full t I.is_rule) (width (states t)) (own t) (carry t) I.is_rule

  begin_is : (a : Watched) → Begins a → a ≡ begin_answer words mask place ends
  begin_is a (not_an_image n e) = e ∙ sym (on_other begins n)
  begin_is a (not_a_mask t I f e) = e ∙ sym (on_image begins I ∙ rw (unequal (length mask) (width (states t)) f))
  begin_is a (begun t first found I l A E e) =
      e ∙ ap₂ (λ (x y : List ℕ). goes_on x 0 y ends) (mask_one A (live t I)) (ends_one t [] found (zero_of t) E (zero_end t I))
      ∙ sym (on_image begins I ∙ rw (wide t l))

  -- THE TABLE SAYS SOMETHING FOR EVERY INPUT
  pub begin_total : Begins (begin_answer words mask place ends)
  begin_total =
      by_verdict words (λ n. not_an_image n (on_other begins n)) (λ t I. by t I (eqb (length mask) (width (states t))) refl)
    where
      by : (t : Tree) → ImageOf words t → (b : Bool) → eqb (length mask) (width (states t)) ≡ b → Begins (begin_answer words mask place ends)
      by t I true e =
          let l = eqb→eq (length mask) (width (states t)) (subst T (sym e) tt) in
          begun t (first_of t) (zero_of t) I l (live t I) (zero_end t I) (on_image begins I ∙ rw e)
      by t I false e = not_a_mask t I (λ l. subst T (sym (wide t l) ∙ e) tt) (on_image begins I ∙ rw e)

  -- TWO ANSWERS THAT MEET BEGIN'S TABLE FOR ONE INPUT ARE EQUAL
  pub begin_one : (a b : Watched) → Begins a → Begins b → a ≡ b
  begin_one = one_answer begin_is

-- ---- STEP
module _ (words mask : List ℕ) (place : ℕ) (stretch ends : List ℕ) (F : Fit mask) (B : Bytes stretch) where
  abbrev Steps : Watched → Type 0
  Steps = StepSays words mask place stretch ends

  abbrev steps : Option Tree → Watched
  steps o = step_of o mask place stretch ends

  masked : (t : Tree) → IsMask (states t) mask → is_mask (states t) mask ≡ true
  masked t M = is_true (is_mask (states t) mask) ((mask_test (states t) (omega arith) mask F).1 M)

  not_masked : (t : Tree) → (IsMask (states t) mask → ⊥) → is_mask (states t) mask ≡ false
  not_masked t f = is_not (is_mask (states t) mask) (λ h. f ((mask_test (states t) (omega arith) mask F).0 h))

  module _ (t : Tree) (I : ImageOf words t) (M : IsMask (states t) mask) where
    live_after : MaskOf (states t) (LiveFrom t (In mask) stretch) (run_from (own t) (depth t) mask stretch)
    live_after = stretch_mask t (rule_full t I.is_rule) (width (states t)) (own t) (carry t) mask refl F M stretch B

    ends-after : EndsIn t (In mask) place stretch (ends_after (own t) (depth t) (accepting t) place mask stretch)
    ends-after = stretch_ends t (rule_full t I.is_rule) (width (states t)) (own t) (carry t) mask refl F M stretch B place

  step_is : (a : Watched) → Steps a → a ≡ step_answer words mask place stretch ends
  step_is a (not_an_image n e) = e ∙ sym (on_other steps n)
  step_is a (stretch_too_long t I l e) = e ∙ sym (on_image steps I ∙ rw (le_false (length stretch) 65535 l))
  step_is a (not_a_mask t I l f e) = e ∙ sym (on_image steps I ∙ rw (le_true (length stretch) 65535 l, not_masked t f))
  step_is a (text_too_long t I l M k e) =
      e ∙ sym (on_image steps I ∙ rw (le_true (length stretch) 65535 l, masked t M, le_false (place + length stretch) 4294967295 k))
  step_is a (stepped t after found I l M k A E e) =
      e ∙ ap₂ (λ (x y : List ℕ). goes_on x (place + length stretch) y ends) (mask_one A (live_after t I M)) (ends_in_one E (ends-after t I M))
      ∙ sym (on_image steps I ∙ rw (le_true (length stretch) 65535 l, masked t M, le_true (place + length stretch) 4294967295 k))

  -- THE TABLE SAYS SOMETHING FOR EVERY INPUT
  pub step_total : Steps (step_answer words mask place stretch ends)
  step_total = by_verdict words (λ n. not_an_image n (on_other steps n)) (λ t I. short t I (le_or_lt (length stretch) 65535))
    where
      Said : Type 0
      Said = Steps (step_answer words mask place stretch ends)

      near : (t : Tree) → ImageOf words t → length stretch ≤ 65535 → IsMask (states t) mask → (place + length stretch ≤ 4294967295) ⊎ (4294967295 < place + length stretch) → Said
      near t I l M (inl k) =
          stepped t (run_from (own t) (depth t) mask stretch) (ends_after (own t) (depth t) (accepting t) place mask stretch) I l M k (live_after t I M) (ends-after t I M)
          (on_image steps I ∙ rw (le_true (length stretch) 65535 l, masked t M, le_true (place + length stretch) 4294967295 k))
      near t I l M (inr k) =
          text_too_long t I l M k (on_image steps I ∙ rw (le_true (length stretch) 65535 l, masked t M, le_false (place + length stretch) 4294967295 k))

      tested : (t : Tree) → ImageOf words t → length stretch ≤ 65535 → (b : Bool) → is_mask (states t) mask ≡ b → Said
      tested t I l true e =
          near t I l ((mask_test (states t) (omega arith) mask F).0 (subst T (sym e) tt)) (le_or_lt (place + length stretch) 4294967295)
      tested t I l false e =
          not_a_mask t I l (λ M. subst T (sym (masked t M) ∙ e) tt) (on_image steps I ∙ rw (le_true (length stretch) 65535 l, e))

      short : (t : Tree) → ImageOf words t → (length stretch ≤ 65535) ⊎ (65535 < length stretch) → Said
      short t I (inl l) = tested t I l (is_mask (states t) mask) refl
      short t I (inr l) = stretch_too_long t I l (on_image steps I ∙ rw (le_false (length stretch) 65535 l))

  -- TWO ANSWERS THAT MEET STEP'S TABLE FOR ONE INPUT ARE EQUAL
  pub step_one : (a b : Watched) → Steps a → Steps b → a ≡ b
  step_one = one_answer step_is

-- A REFUSAL LEAVES THE WATCH WHERE IT WAS
pub refused_stays : {words mask stretch ends : List ℕ} {place : ℕ} {a : Watched} → StepSays words mask place stretch ends a → a.number ≢ 0
    → a ≡ stays a.number mask place ends
refused_stays {mask = mask} {ends = ends} {place = place} (not_an_image f e) n = e ∙ ap (λ (x : Watched). stays x.number mask place ends) (sym e)
refused_stays {mask = mask} {ends = ends} {place = place} (stretch_too_long t I l e) n = e ∙ ap (λ (x : Watched). stays x.number mask place ends) (sym e)
refused_stays {mask = mask} {ends = ends} {place = place} (not_a_mask t I l f e) n = e ∙ ap (λ (x : Watched). stays x.number mask place ends) (sym e)
refused_stays {mask = mask} {ends = ends} {place = place} (text_too_long t I l f k e) n = e ∙ ap (λ (x : Watched). stays x.number mask place ends) (sym e)
refused_stays (stepped t x y I l f k A E e) n = absurd (n (ap (λ (x : Watched). x.number) e))

-- NO BYTES, NOTHING CHANGES: within the limits the watch stays as it was and nothing is found
pub no_bytes : (words mask : List ℕ) (place : ℕ) (ends : List ℕ) (t : Tree) → ImageOf words t → Fit mask → IsMask (states t) mask → place ≤ 4294967295 → (a : Watched)
    → StepSays words mask place [] ends a → a ≡ stays 0 mask place ends
no_bytes words mask place ends t I F M l a S =
    step_is words mask place [] ends F tt a S ∙ on_image (steps words mask place [] ends F tt) I
    ∙ rw (masked words mask place [] ends F tt t M, le_true (place + 0) 4294967295 (omega arith))
    (ap₂ (λ (n : ℕ) (l : List ℕ). stays 0 mask n (l ++ ends)) (let e : place + 0 ≡ place = omega arith in e) (take-nil (length ends)))
