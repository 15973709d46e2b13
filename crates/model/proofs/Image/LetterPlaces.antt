-- The letter and the loop places of a row of tokens: the place of token i is state i + 1. So a repeat mask is its letter mask and the loop
-- places, and the letter masks together are the letter places.
use mathlib.Core.Path.{◌≡◌, refl, sym, ap, ap₂, ◌∙◌, subst}
use mathlib.Core.Logic.{◌⊎◌, inl, inr}
use mathlib.Core.Bool.{Bool, true, false, ◌&&◌, ◌||◌, and-false, and-true, or-false}
use mathlib.Core.List.{List, [], ◌∷◌}
use Prim.Native.Nat.{ℕ, zero, suc, ◌+◌, ◌≤◌, ◌<◌}
use native.Mathlib.Nat.{le_refl, le_of_suc-le-suc, not-suc-le-zero, zero-add}
use native.Mathlib.Omega.{arith}
use lib.Dec.{T, eqb, eqb_refl}
use lib.ListN.{length, get_or}
use Rattle.model.specs.Bits.{bit}
use Rattle.model.specs.Lists.{any}
use Rattle.model.specs.Tree.{can_loop, Mark, once, option, optional, plus, star, starred, unmarked}
use Rattle.model.specs.Models.Apart.{any_below}
use Rattle.model.specs.Models.Sections.{bit_of, letters_in, state_word, width_word}
use Rattle.model.specs.Models.LayOut.{after_bar, after_close, bar_strokes_in, begin, close_strokes_in, Frame, lay_out, letter-place, loop_place, mark, marks, number, one_state, same_plane, Scan, set, step, token_letters, token_loops, Plane}
use Rattle.model.specs.Models.Tokens.{a_bar, a_close, a_letter, an_open, class_of, loop_class_of, Token}
use Rattle.model.specs.Models.Words.{value}
use Rattle.model.proofs.Image.Classes.{AllFine, Fine, fine_at, no_bits, some_bit}
use Rattle.model.proofs.Image.Marks.{one_marks}
use Rattle.model.proofs.Image.Rows.{wide}
use Rattle.model.proofs.Laws.Bits.{below_in, bit_zero}
use Rattle.model.proofs.Laws.Bool.{is_not, is_true, unequal}
use Rattle.model.proofs.Words.Holds.{Holds, set_holds}

abbrev is_letter : Token → Bool
is_letter (a_letter c r) = true
is_letter an_open = false
is_letter a_bar = false
is_letter (a_close m) = false

abbrev is_looping : Token → Bool
is_looping (a_letter c r) = can_loop r
is_looping an_open = false
is_looping a_bar = false
is_looping (a_close m) = false

-- each token leads one state on
pub position_step : (y : Token) (q : Scan) → (step y q).position ≡ suc q.position
position_step (a_letter c r) q = refl
position_step an_open q = refl
position_step a_bar q = go q.stack
  where
    go : (st : List Frame) → (after_bar q.position q.can_be_empty st).position ≡ suc q.position
    go [] = refl
    go (f ∷ st) = refl
position_step (a_close m) q = go q.stack
  where
    go : (st : List Frame) → (after_close m q.position q.can_be_empty st).position ≡ suc q.position
    go [] = refl
    go (f ∷ st) = refl

-- the one state of a stroke at depth 0
one_place : (w : Plane) (x y : ℕ) → (marks w 0 x (one_state w 0 y) || false) ≡ eqb x y
one_place w x y =
    or-false (marks w 0 x (one_state w 0 y))
    ∙ one_marks w 0 x w 0 y
    ∙ ap (λ (b : Bool). b && (eqb x y && true)) (is_true (same_plane w w) (eqb_refl (number w)))
    ∙ and-true (eqb x y)

-- ---- a mask in which each token that passes a test marks the state it leads to
module _ (w : Plane) (test : Token → Bool) (marks : (y : Token) (q : Scan) (x : ℕ) → mark y q w 0 x ≡ (test y && eqb x (suc q.position))) where
  elsewhere : (y : Token) (q : Scan) (x : ℕ) → (x ≡ suc q.position → ⊥) → mark y q w 0 x ≡ false
  elsewhere y q x h = marks y q x ∙ ap (λ (b : Bool). test y && b) (unequal x (suc q.position) h) ∙ and-false (test y)

  none_before : (l : List Token) (q : Scan) (x : ℕ) → x ≤ q.position → lay_out l q w 0 x ≡ false
  none_before [] q x h = refl
  none_before (y ∷ ys) q x h = ap₂ ◌||◌ (elsewhere y q x (λ e. omega arith)) (none_before ys (step y q) x (omega (arith, position_step y q)))

  -- the state that token i leads to has the mark exactly if the token passes
  at_token : (l : List Token) (q : Scan) (i : ℕ) → i < length l → lay_out l q w 0 (suc (q.position + i)) ≡ test (get_or l i a_bar)
  at_token [] q i h = absurd (not-suc-le-zero h)
  at_token (y ∷ ys) q zero h =
      (let e : suc (q.position + 0) ≡ suc q.position = omega arith in ap (λ (x : ℕ). lay_out (y ∷ ys) q w 0 x) e)
      ∙ ap₂ ◌||◌ (marks y q z ∙ ap (λ (b : Bool). test y && b) (is_true (eqb z z) (eqb_refl z)) ∙ and-true (test y))
      (none_before ys (step y q) z (omega (arith, position_step y q)))
      ∙ or-false (test y)
    where
      z : ℕ
      z = suc q.position
  at_token (y ∷ ys) q (suc i) h =
      ap (λ (a : Bool). a || lay_out ys (step y q) w 0 (suc (q.position + suc i))) (elsewhere y q (suc (q.position + suc i)) (λ e. omega arith))
      ∙ (let e : suc (q.position + suc i) ≡ suc ((step y q).position + i) = omega (arith, position_step y q) in ap (λ (x : ℕ). lay_out ys (step y q) w 0 x) e)
      ∙ at_token ys (step y q) i (le_of_suc-le-suc h)

  place_at : (l : List Token) (i : ℕ) → i < length l → lay_out l begin w 0 (suc i) ≡ test (get_or l i a_bar)
  place_at l i h = ap (λ (x : ℕ). lay_out l begin w 0 (suc x)) (sym (zero-add i)) ∙ at_token l begin i h

-- ---- the loop places
loop_marks : (y : Token) (q : Scan) (x : ℕ) → mark y q loop_place 0 x ≡ (is_looping y && eqb x (suc q.position))
loop_marks (a_letter c once) q x = refl
loop_marks (a_letter c option) q x = refl
loop_marks (a_letter c star) q x = one_place loop_place x (suc q.position)
loop_marks (a_letter c plus) q x = one_place loop_place x (suc q.position)
loop_marks an_open q x = refl
loop_marks a_bar q x = go q.stack
  where
    go : (st : List Frame) → any (marks loop_place 0 x) (bar_strokes_in q.position st) ≡ false
    go [] = refl
    go (f ∷ st) = refl
loop_marks (a_close m) q x = go m q.stack
  where
    go : (m : Mark) (st : List Frame) → any (marks loop_place 0 x) (close_strokes_in m q.position st) ≡ false
    go m [] = refl
    go unmarked (f ∷ st) = refl
    go optional (f ∷ st) = refl
    go starred (f ∷ st) = refl

loop_class : (y : Token) (b : ℕ) → (bit (class_of y) b && is_looping y) ≡ bit (loop_class_of y) b
loop_class (a_letter c once) b = and-false (bit c b) ∙ sym (bit_zero b)
loop_class (a_letter c option) b = and-false (bit c b) ∙ sym (bit_zero b)
loop_class (a_letter c star) b = and-true (bit c b)
loop_class (a_letter c plus) b = and-true (bit c b)
loop_class an_open b = and-false (bit 0 b) ∙ sym (bit_zero b)
loop_class a_bar b = and-false (bit 0 b) ∙ sym (bit_zero b)
loop_class (a_close m) b = and-false (bit 0 b) ∙ sym (bit_zero b)

-- A REPEAT MASK IS ITS LETTER MASK AND THE LOOP PLACES
pub repeats_by_letters : (l : List Token) (b x : ℕ) → x < suc (length l) → (token_letters l b x && lay_out l begin loop_place 0 x) ≡ token_loops l b x
repeats_by_letters l b zero h = refl
repeats_by_letters l b (suc i) h =
    ap (λ (a : Bool). bit (class_of (get_or l i a_bar)) b && a) (place_at loop_place is_looping loop_marks l i (le_of_suc-le-suc h)) ∙ loop_class (get_or l i a_bar) b

-- ---- the letter places
letter_marks : (y : Token) (q : Scan) (x : ℕ) → mark y q letter-place 0 x ≡ (is_letter y && eqb x (suc q.position))
letter_marks (a_letter c once) q x = one_place letter-place x (suc q.position)
letter_marks (a_letter c option) q x = one_place letter-place x (suc q.position)
letter_marks (a_letter c star) q x = one_place letter-place x (suc q.position)
letter_marks (a_letter c plus) q x = one_place letter-place x (suc q.position)
letter_marks an_open q x = refl
letter_marks a_bar q x = go q.stack
  where
    go : (st : List Frame) → any (marks letter-place 0 x) (bar_strokes_in q.position st) ≡ false
    go [] = refl
    go (f ∷ st) = refl
letter_marks (a_close m) q x = go m q.stack
  where
    go : (m : Mark) (st : List Frame) → any (marks letter-place 0 x) (close_strokes_in m q.position st) ≡ false
    go m [] = refl
    go unmarked (f ∷ st) = refl
    go optional (f ∷ st) = refl
    go starred (f ∷ st) = refl

pub no_letter_at_zero : (l : List Token) → lay_out l begin letter-place 0 0 ≡ false
no_letter_at_zero l = none_before letter-place is_letter letter_marks l begin 0 (le_refl 0)

-- THE LETTER MASKS TOGETHER ARE THE LETTER PLACES, for fine tokens
pub or_is_places : (l : List Token) → AllFine l → (x : ℕ) → x < suc (length l) → any_below 256 (λ b. token_letters l b x) ≡ lay_out l begin letter-place 0 x
or_is_places l F zero h = sym (no_letter_at_zero l)
or_is_places l F (suc i) h = some_byte (get_or l i a_bar) (fine_at l i F) ∙ sym (place_at letter-place is_letter letter_marks l i (le_of_suc-le-suc h))
  where
    some_byte : (y : Token) → Fine y → any_below 256 (λ b. bit (class_of y) b) ≡ is_letter y
    some_byte (a_letter c r) C = some_bit c C
    some_byte an_open C = no_bits 256
    some_byte a_bar C = no_bits 256
    some_byte (a_close m) C = no_bits 256

-- the letter places of a row of tokens, in words of the width that ws say
abbrev pub letter_places : List ℕ → List Token → List ℕ
letter_places ws l = set (state_word ws) (width_word ws) (lay_out l begin letter-place 0)

-- and where words' letter masks together are the letter places, no letter mask has state 0 or a state at or past m
pub letters_by_or : (ws : List ℕ) (l : List Token) → state_word ws ≤ wide (width_word ws) → 0 < state_word ws
    → ((x : ℕ) → any_below 256 (λ b. bit_of (width_word ws) (letters_in ws) b x) ≡ bit (value (letter_places ws l)) x)
    → (b x : ℕ) → b < 256 → (x ≡ 0) ⊎ (state_word ws ≤ x) → bit_of (width_word ws) (letters_in ws) b x ≡ false
letters_by_or ws l room some same b x h o =
    is_not (bit_of (width_word ws) (letters_in ws) b x) (λ t. subst T (same x ∙ none o) (below_in 256 (λ b. bit_of (width_word ws) (letters_in ws) b x) b h t))
  where
    H : Holds (state_word ws) (width_word ws) (letter_places ws l) (lay_out l begin letter-place 0)
    H = set_holds (state_word ws) (width_word ws) (lay_out l begin letter-place 0) room

    none : (x ≡ 0) ⊎ (state_word ws ≤ x) → bit (value (letter_places ws l)) x ≡ false
    none (inl e) = ap (λ (y : ℕ). bit (value (letter_places ws l)) y) e ∙ H.near.bits 0 some ∙ no_letter_at_zero l
    none (inr k) = H.none x k
