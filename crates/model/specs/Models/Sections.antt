-- WHERE THE WORDS OF AN IMAGE LIE: the shape first, and then each section "after its count of words".
use Rattle.std.specs.Prelude.{◌≡◌, Bool, List, ℕ, suc, ◌+◌, ◌*◌, drop, get_or, length, take}
use Rattle.model.specs.Bits.{bit}
use Rattle.model.specs.Models.Words.{value}

-- ---- the shape: m states, W words to a mask, depth d
abbrev pub state_word : List ℕ → ℕ
state_word ws = get_or ws 1 0

abbrev pub width_word : List ℕ → ℕ
width_word ws = get_or ws 2 0

abbrev pub depth_word : List ℕ → ℕ
depth_word ws = get_or ws 3 0

-- ---- the sections, for W words to a mask and depth d: the place of the count, and that of the first mask after it
abbrev pub letters_count : ℕ
letters_count = 4

abbrev pub letters_at : ℕ
letters_at = suc letters_count

abbrev pub repeats_count : ℕ → ℕ
repeats_count W = letters_at + 256 * W

abbrev pub repeats_at : ℕ → ℕ
repeats_at W = suc (repeats_count W)

abbrev pub scatter_count : ℕ → ℕ
scatter_count W = repeats_at W + 256 * W

abbrev pub scatter_at : ℕ → ℕ
scatter_at W = suc (scatter_count W)

abbrev pub gather_count : ℕ → ℕ → ℕ
gather_count W d = scatter_at W + 3 * W * d

abbrev pub gather_at : ℕ → ℕ → ℕ
gather_at W d = suc (gather_count W d)

abbrev pub propagate_count : ℕ → ℕ → ℕ
propagate_count W d = gather_at W d + 3 * W * d

abbrev pub propagate_at : ℕ → ℕ → ℕ
propagate_at W d = suc (propagate_count W d)

abbrev pub back_count : ℕ → ℕ → ℕ
back_count W d = propagate_at W d + 3 * W * suc d

abbrev pub back_at : ℕ → ℕ → ℕ
back_at W d = suc (back_count W d)

-- how many words there are: "9 + W(515 + 9d)", and "1 + 2Wd" with the back edges
abbrev pub image_length : ℕ → ℕ → ℕ
image_length W d = back_at W d + 2 * W * d

-- words that have this length and these counts
pub record Counted (ws : List ℕ) (W d : ℕ) : Type 0 where
  pub long : length ws ≡ image_length W d
  pub shape_count : get_or ws 0 0 ≡ 3
  pub letters-count : get_or ws letters_count 0 ≡ 256 * W
  pub repeats-count : get_or ws (repeats_count W) 0 ≡ 256 * W
  pub scatter-count : get_or ws (scatter_count W) 0 ≡ 3 * W * d
  pub gather-count : get_or ws (gather_count W d) 0 ≡ 3 * W * d
  pub propagate-count : get_or ws (propagate_count W d) 0 ≡ 3 * W * suc d
  pub back-count : get_or ws (back_count W d) 0 ≡ 2 * W * d

-- ---- the masks: those of byte b; mask j of the three, or the two, of depth k
abbrev pub letter_place : ℕ → ℕ → ℕ
letter_place W b = letters_at + W * b

abbrev pub repeat_place : ℕ → ℕ → ℕ
repeat_place W b = repeats_at W + W * b

abbrev pub three_place : (at W k j : ℕ) → ℕ
three_place at W k j = at + W * (3 * k + j)

abbrev pub two_place : (at W k j : ℕ) → ℕ
two_place at W k j = at + W * (2 * k + j)

-- ---- the sets that words hold there: the words from a section on, without its count
abbrev pub letters_in : List ℕ → List ℕ
letters_in ws = drop letters_at ws

abbrev pub repeats_in : List ℕ → List ℕ
repeats_in ws = drop (repeats_at (width_word ws)) ws

abbrev pub scatter_in : List ℕ → List ℕ
scatter_in ws = drop (scatter_at (width_word ws)) ws

abbrev pub gather_in : List ℕ → List ℕ
gather_in ws = drop (gather_at (width_word ws) (depth_word ws)) ws

abbrev pub propagate_in : List ℕ → List ℕ
propagate_in ws = drop (propagate_at (width_word ws) (depth_word ws)) ws

abbrev pub back_in : List ℕ → List ℕ
back_in ws = drop (back_at (width_word ws) (depth_word ws)) ws

-- part k of words that are cut into parts of w words
abbrev pub chunk : ℕ → ℕ → List ℕ → List ℕ
chunk w k ws = take w (drop (w * k) ws)

-- bit x of mask k of a section, where each mask has W words; of mask j of the three, or the two, of depth k
abbrev pub bit_of : ℕ → List ℕ → ℕ → ℕ → Bool
bit_of W ws k x = bit (value (chunk W k ws)) x

abbrev pub bit_of_three : ℕ → List ℕ → ℕ → ℕ → ℕ → Bool
bit_of_three W ws j k x = bit (value (chunk W j (chunk (3 * W) k ws))) x

abbrev pub bit_of_two : ℕ → List ℕ → ℕ → ℕ → ℕ → Bool
bit_of_two W ws j k x = bit (value (chunk W j (chunk (2 * W) k ws))) x
