-- The scan's array of frames as a stack: a frame stored at the depth is on top, the frames below it stay. So the code's scan steps as the model's.
use mathlib.Core.Path.{◌≡◌, refl, sym, ap, ap₂, ◌∙◌, subst}
use mathlib.Core.Bool.{Bool, true, false, not, ◌&&◌, ◌||◌}
use mathlib.Core.List.{List, ◌∷◌}
use Prim.Native.Nat.{ℕ, zero, suc, ◌+◌, ◌-◌, ◌≤◌, ◌<◌}
use native.Mathlib.Nat.{le_refl, not-suc-le-zero, zero-lt-suc}
use native.Mathlib.Numerals.{add-one}
use native.Mathlib.Omega.{arith}
use borrow.Author.Tests.{lt-ltb, ne_eqb}
use lib.Dec.{T, eqb, ltb, ltb→lt}
use lib.ListN.{get_or, length, set}
use lib.Seq.{get_or-set_other, get_or-set_same}
use Rattle.std.specs.Prelude.{is_some}
use Rattle.model.specs.Models.LayOut.{check, fitting, fitting_in, inside, next_alternative, outside, scan, step}
use Rattle.model.specs.Models.LayOut as model
use Rattle.model.specs.Models.Tokens.{a_bar, a_close, a_letter, an_open}
use Rattle.model.specs.Tree.{can_omit, can_skip, Mark, Repeat}
use Rattle.model.proofs.Laws.Bool.{and_split}
use Rattle.tokens.specs.Scans.{Behind, frame_of, Innermost, Known, no_frame, opened_at, Ready, scan_of, stack_of, with_frames}
use Rattle.tokens.specs.Tokens.{mark_of, token_of}
use Rattle.tokens.specs.declared.Frame.{Frame}
use Rattle.tokens.specs.declared.Scan.{Scan}
use Rattle.tokens.specs.declared.token.Mark as token
use Rattle.tokens.specs.declared.token.Token.{Token}
use Rattle.tokens.specs.declared.token.Token.TheVariants.{Bar, Close, Open}

-- ---- the stack
pub length_stack : (fs : List Frame) (n : ℕ) → length (stack_of fs n) ≡ n
length_stack fs zero = refl
length_stack fs (suc n) = ap suc (length_stack fs n)

stack_below : (fs : List Frame) (n : ℕ) (f : Frame) (j : ℕ) → j ≤ n → stack_of (set fs n f) j ≡ stack_of fs j
stack_below fs n f zero h = refl
stack_below fs n f (suc j) h =
    ap₂ (λ (g : Frame) (st : List model.Frame). frame_of g ∷ st) (get_or-set_other fs n j f no_frame (λ e. omega arith)) (stack_below fs n f j (omega arith))

stack_top : (fs : List Frame) (n : ℕ) (f : Frame) → n < length fs → stack_of (set fs n f) (suc n) ≡ frame_of f ∷ stack_of fs n
stack_top fs n f h = ap₂ (λ (g : Frame) (st : List model.Frame). frame_of g ∷ st) (get_or-set_same fs n f no_frame h) (stack_below fs n f n (le_refl n))

pub inside_is : (fs : List Frame) (n : ℕ) → ltb 0 n ≡ inside (stack_of fs n)
inside_is fs zero = refl
inside_is fs (suc n) = lt-ltb 0 (suc n) (zero-lt-suc n)

pub outside_is : (fs : List Frame) (n : ℕ) → eqb n 0 ≡ outside (stack_of fs n)
outside_is fs zero = refl
outside_is fs (suc n) = ne_eqb (suc n) 0 (λ e. omega arith)

-- ---- below the top of a stack that is not empty
module _ (fs : List Frame) where
  abbrev top_frame : ℕ → Frame
  top_frame n = get_or fs (n - 1) no_frame

  pub top_is : (n : ℕ) → 0 < n → stack_of fs n ≡ frame_of (top_frame n) ∷ stack_of fs (n - 1)
  top_is zero h = absurd (not-suc-le-zero h)
  top_is (suc n) h = let e : n ≡ suc n - 1 = omega arith in ap (λ (k : ℕ). frame_of (get_or fs k no_frame) ∷ stack_of fs k) e

  top_set : (n : ℕ) (f : Frame) → 0 < n → n ≤ length fs → stack_of (set fs (n - 1) f) n ≡ frame_of f ∷ stack_of fs (n - 1)
  top_set zero f h l = absurd (not-suc-le-zero h)
  top_set (suc n) f h l =
      let e : n ≡ suc n - 1 = omega arith in
      subst (λ (k : ℕ). stack_of (set fs k f) (suc n) ≡ frame_of f ∷ stack_of fs k) e (stack_top fs n f l)

-- ---- the steps: a frame that is stored at the depth lies above the stack
module _ (q : Scan) (fs : List Frame) where
  pub letter_scan : (f : Frame) (r : Repeat) (skips : Bool) → skips ≡ can_skip r
      → scan_of (with_frames
      (record { position = q.position + 1; no_item = false; can_be_empty = q.can_be_empty && skips; depth = q.depth })
      (set fs q.depth f)) ≡ step (a_letter 0 r) (scan_of (with_frames q fs))
  letter_scan f r skips e =
      ap (λ (b : Bool). scan (q.position + 1) false (q.can_be_empty && b) (stack_of (set fs q.depth f) q.depth)) e
      ∙ ap₂ (λ (p : ℕ) (st : List model.Frame). scan p false (q.can_be_empty && can_skip r) st) (add-one q.position)
      (stack_below fs q.depth f q.depth (le_refl q.depth))

  pub opened_scan : (f : Frame) → q.depth < length fs → frame_of f ≡ opened_at q
      → scan_of (with_frames (record { position = q.position + 1; no_item = true; can_be_empty = true; depth = q.depth + 1 }) (set fs q.depth f))
      ≡ step an_open (scan_of (with_frames q fs))
  opened_scan f h e =
      ap₂ (λ (p : ℕ) (st : List model.Frame). scan p true true st) (add-one q.position)
      (ap (stack_of (set fs q.depth f)) (add-one q.depth) ∙ stack_top fs q.depth f h ∙ ap (λ (g : model.Frame). g ∷ stack_of fs q.depth) e)

  module _ (top : Frame) (I : Innermost q top fs) (h : 0 < q.depth) where
    pub stack_is : stack_of fs q.depth ≡ frame_of top ∷ stack_of fs (q.depth - 1)
    stack_is = top_is fs q.depth h ∙ ap (λ (g : Frame). frame_of g ∷ stack_of fs (q.depth - 1)) (I h)

    pub barred_scan : (f : Frame) → q.depth ≤ length fs → frame_of f ≡ next_alternative (frame_of top) q.position q.can_be_empty
        → scan_of (with_frames (record { position = q.position + 1; no_item = true; can_be_empty = true; depth = q.depth }) (set fs (q.depth - 1) f))
        ≡ step a_bar (scan_of (with_frames q fs))
    barred_scan f l e =
        ap₂ (λ (p : ℕ) (st : List model.Frame). scan p true true st) (add-one q.position)
        (top_set fs q.depth f h l ∙ ap (λ (g : model.Frame). g ∷ stack_of fs (q.depth - 1)) e)
        ∙ sym (ap (model.after_bar q.position q.can_be_empty) stack_is)

    pub closed_scan : (f : Frame) (m : Mark) (omits : Bool) → omits ≡ can_omit m
        → scan_of (with_frames
        (record {
          position = q.position + 1;
          no_item = false;
          can_be_empty = top.empty_outside && omits;
          depth = q.depth - 1;
        })
        (set fs q.depth f)) ≡ step (a_close m) (scan_of (with_frames q fs))
    closed_scan f m omits e =
        ap (λ (b : Bool). scan (q.position + 1) false (top.empty_outside && b) (stack_of (set fs q.depth f) (q.depth - 1))) e
        ∙ ap₂ (λ (p : ℕ) (st : List model.Frame). scan p false (top.empty_outside && can_omit m) st) (add-one q.position)
        (stack_below fs q.depth f (q.depth - 1) (omega arith))
        ∙ sym (ap (model.after_close m q.position q.can_be_empty) stack_is)

pub fitting_is : (q : Scan) (fs : List Frame) (top : Frame) (m : Mark) → Innermost q top fs
    → (ltb 0 q.depth && fitting m (is_some top.first_end) (top.empty_before || q.can_be_empty)) ≡ fitting_in m q.can_be_empty (stack_of fs q.depth)
fitting_is q fs top m I = go q.depth I
  where
    asked : Frame → Bool
    asked f = fitting m (is_some f.first_end) (f.empty_before || q.can_be_empty)

    go : (n : ℕ) → (0 < n → get_or fs (n - 1) no_frame ≡ top) → (ltb 0 n && asked top) ≡ fitting_in m q.can_be_empty (stack_of fs n)
    go zero J = refl
    go (suc n) J =
        ap (λ (b : Bool). b && asked top) (lt-ltb 0 (suc n) (zero-lt-suc n))
        ∙ sym (ap (fitting_in m q.can_be_empty) (top_is fs (suc n) (zero-lt-suc n)) ∙ ap asked (J (zero-lt-suc n)))

-- ---- what a token that fits says of the depth
module _ (q : Known) (y : Token) (R : Ready q y) where
  pub ready_depth : q.depth ≤ 8
  ready_depth = omega (arith, R.sane.shallow, length_stack q.frames q.depth)

  pub ready_open : y ≡ Open → q.depth < 8
  ready_open e =
      omega (
        arith,
        ltb→lt (length (stack_of q.frames q.depth)) 8 (subst (λ (z : Token). T (check (token_of z) (scan_of q))) e R.fits),
        length_stack q.frames q.depth,
      )

  some_open : (n : ℕ) → T (inside (stack_of q.frames n)) → 0 < n
  some_open zero t = absurd t
  some_open (suc n) t = zero-lt-suc n

  fitting_open : (m : Mark) (n : ℕ) → T (fitting_in m q.can_be_empty (stack_of q.frames n)) → 0 < n
  fitting_open m zero t = absurd t
  fitting_open m (suc n) t = zero-lt-suc n

  pub ready_bar : y ≡ Bar → 0 < q.depth
  ready_bar e =
      some_open q.depth (and_split (inside (stack_of q.frames q.depth)) (not q.no_item)
      (subst (λ (z : Token). T (check (token_of z) (scan_of q))) e R.fits)).0

  pub ready_close : (m : token.Mark) → y ≡ Close m → 0 < q.depth
  ready_close m e =
      fitting_open (mark_of m) q.depth (and_split (fitting_in (mark_of m) q.can_be_empty (stack_of q.frames q.depth)) (not q.no_item)
      (subst (λ (z : Token). T (check (token_of z) (scan_of q))) e R.fits)).0

  -- the places of the innermost union lie behind
  pub ready_top : (m : token.Mark) → y ≡ Close m → ((top_frame q.frames q.depth).alternative < 511) × ((top_frame q.frames q.depth).start < 511)
  ready_top m e =
      let b = subst (Behind q.position) (top_is q.frames q.depth (ready_close m e)) R.sane.behind in
      (omega (arith, b.2, R.below), omega (arith, b.0, R.below))
