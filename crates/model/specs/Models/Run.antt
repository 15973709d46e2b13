-- THE RUN ON WORDS (document 01, "The image", last paragraph): "shift and letter mask for the move, then subtraction for scatter, addition for
-- gather, subtraction for propagate".
use Rattle.std.specs.Prelude.{Bool, true, false, ◌&&◌, cond, List, [], ◌∷◌, ◌++◌, ℕ, zero, suc, ◌+◌}
use Rattle.model.specs.Bits.{bit, mask}
use Rattle.model.specs.Models.Verdict.{same_words}
use Rattle.model.specs.Models.Words.{add_words, and_words, not_words, or_words, shift_words, subtract_words, value, xor_words}

-- ---- one pass over the live states, with its three masks
abbrev pub scatter_words : (block source target live : List ℕ) → List ℕ
scatter_words block source target live = or_words live (and_words (subtract_words block (and_words live source) false) target)

abbrev pub gather_words : (block source target live : List ℕ) → List ℕ
gather_words block source target live = or_words live (and_words (add_words block (and_words live source) false) target)

abbrev pub propagate_words : (block source target live : List ℕ) → List ℕ
propagate_words block source target live =
    let from = or_words (and_words live block) target in
    or_words live (and_words block (xor_words (not_words (subtract_words from source false)) from))

-- the move by a byte, with the byte's two masks and the mask of state 0
abbrev pub move_words : (letters repeats start live : List ℕ) → List ℕ
move_words letters repeats start live = or_words (or_words (and_words (shift_words live false) letters) (and_words live repeats)) start

-- whether the first source among n states from x on is live; where none of them is a source, what is known above them
abbrev pub ahead : ℕ → (above : Bool) (source live : ℕ → Bool) → ℕ → Bool
ahead zero above c f x = above
ahead (suc n) above c f x = let later = ahead n above c f (suc x) in cond (c x) (f x) later

-- of the words of a row
abbrev pub first_live : (source live : List ℕ) → Bool
first_live [] ls = false
first_live (s ∷ ss) [] = false
first_live (s ∷ ss) (l ∷ ls) = ahead 64 (first_live ss ls) (bit s) (bit l) 0

-- THE TARGETS OF THE BACK EDGES WHOSE SOURCES ARE LIVE: a target's source is the first one at or past it, for a body has no other of its depth in it. Of
-- one word, and of a row
abbrev pub back_word : (above : Bool) (source target live : ℕ) → ℕ
back_word above s t l = mask 64 (λ x. bit t x && ahead 64 above (bit s) (bit l) x)

abbrev pub return_words : (source target live : List ℕ) → List ℕ
return_words [] ts ls = []
return_words (s ∷ ss) [] ls = []
return_words (s ∷ ss) (t ∷ ts) [] = []
return_words (s ∷ ss) (t ∷ ts) (l ∷ ls) = back_word (first_live ss ls) s t l ∷ return_words ss ts ls

-- ---- the masks of a tree: of each byte; of each depth its block (0), source (1) and target (2); of each depth the back edges' source (0) and target
-- (1); of state 0
pub record Masks : Type 0 where
  pub letter_mask : ℕ → List ℕ
  pub loop_mask : ℕ → List ℕ
  pub scatter_mask : ℕ → ℕ → List ℕ
  pub gather_mask : ℕ → ℕ → List ℕ
  pub propagate_mask : ℕ → ℕ → List ℕ
  pub back_mask : ℕ → ℕ → List ℕ
  pub start_mask : List ℕ

abbrev pub scatter_by : Masks → ℕ → List ℕ → List ℕ
scatter_by M k = scatter_words (M.scatter_mask k 0) (M.scatter_mask k 1) (M.scatter_mask k 2)

abbrev pub gather_by : Masks → ℕ → List ℕ → List ℕ
gather_by M k = gather_words (M.gather_mask k 0) (M.gather_mask k 1) (M.gather_mask k 2)

abbrev pub propagate_by : Masks → ℕ → List ℕ → List ℕ
propagate_by M k = propagate_words (M.propagate_mask k 0) (M.propagate_mask k 1) (M.propagate_mask k 2)

abbrev pub move_by : Masks → ℕ → List ℕ → List ℕ
move_by M b = move_words (M.letter_mask b) (M.loop_mask b) M.start_mask

-- ---- the passes: from depth k up to depth 0, then n depths down from depth k
abbrev pub rise_words : Masks → ℕ → List ℕ → List ℕ
rise_words M zero live = propagate_by M 0 live
rise_words M (suc k) live = rise_words M k (gather_by M k (propagate_by M (suc k) live))

abbrev pub fall_words : Masks → ℕ → ℕ → List ℕ → List ℕ
fall_words M zero k live = live
fall_words M (suc n) k live = fall_words M n (suc k) (propagate_by M (suc k) (scatter_by M k live))

abbrev pub pass_words : Masks → ℕ → List ℕ → List ℕ
pass_words M d live = fall_words M d 0 (rise_words M d live)

-- what the back edges of the depths below n add to `live`, where `first` is what the passes gave
abbrev pub returns_words : Masks → ℕ → (first live : List ℕ) → List ℕ
returns_words M zero first live = live
returns_words M (suc k) first live = returns_words M k first (or_words live (return_words (M.back_mask k 0) (M.back_mask k 1) first))

-- TWO ROUNDS: the passes, and once more only where the back edges add something to what the first gave
abbrev pub second_round : Masks → ℕ → List ℕ → List ℕ
second_round M d first =
    let more = returns_words M d first first in
    cond (same_words more first) first (pass_words M d more)

abbrev pub close_words : Masks → ℕ → List ℕ → List ℕ
close_words M d live = second_round M d (pass_words M d live)

-- one byte, and the bytes read so far, the last one first
abbrev pub step_words : Masks → ℕ → ℕ → List ℕ → List ℕ
step_words M d b live = close_words M d (move_by M b live)

abbrev pub run_words : Masks → ℕ → List ℕ → List ℕ
run_words M d [] = close_words M d M.start_mask
run_words M d (b ∷ w) = step_words M d b (run_words M d w)

-- ---- A STRETCH, from any live words and any place: the words after it
abbrev pub run_from : Masks → ℕ → (live stretch : List ℕ) → List ℕ
run_from M d live [] = live
run_from M d live (b ∷ rest) = run_from M d (step_words M d b live) rest

-- a place as a list, if it is an end
abbrev pub noted : Bool → ℕ → List ℕ
noted true p = p ∷ []
noted false p = []

-- and the ends after place p: those places after a byte of the stretch at which state `last` is live
abbrev pub ends_after : Masks → (d last p : ℕ) → (live stretch : List ℕ) → List ℕ
ends_after M d last p live [] = []
ends_after M d last p live (b ∷ rest) =
    let next = step_words M d b live in
    noted (bit (value next) last) (p + 1) ++ ends_after M d last (p + 1) next rest

-- A WHOLE TEXT is a beginning, with place 0, and one stretch
abbrev pub ends_with : Masks → (d last : ℕ) → List ℕ → List ℕ
ends_with M d last text =
    let first = close_words M d M.start_mask in
    noted (bit (value first) last) 0 ++ ends_after M d last 0 first text
