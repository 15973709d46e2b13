-- THE MASKS OF WORK: as they lie in the words of an image, with words of zeros above; in series; and in one table the nine series side by side, then the back
-- edges' masks.
use Rattle.std.specs.Prelude.{◌≡◌, ◌≢◌, true, List, [], ◌∷◌, ◌++◌, ℕ, zero, suc, ◌+◌, ◌-◌, ◌*◌, ◌≤◌, ◌<◌, drop, get_or, length, replicate, take}
use Rattle.model.specs.Models.Sections.{back_at, depth_word, gather_at, letter_place, propagate_at, repeat_place, scatter_at, three_place, two_place}
use Rattle.model.specs.Models.Run.{Masks, move_by, pass_words, step_words}
use Rattle.image_sections.specs.Sections.{Placed, width_of}
use Rattle.image_sections.specs.declared.Sections.{Sections}
use Rattle.run_moves.specs.Less.{less_one, plus_words, start_words}
use Rattle.run_moves.specs.Sets.{Apart}
use Rattle.run_word.specs.Ends.{Limits}
use Rattle.run_word.specs.One.{of_nine}

-- "A mask is one record of eight 64-bit words in work, and in the image its first W words"
abbrev pub row_at : List ℕ → ℕ → ℕ → List ℕ
row_at ws at W = take W (drop at ws) ++ replicate (8 - W) 0

-- THE MASKS OF WORDS, where they lie
abbrev pub masks_of : List ℕ → Masks
masks_of ws =
    let W = width_of ws in
    let d = depth_word ws in
    record {
      letter_mask = λ b. row_at ws (letter_place W b) W;
      loop_mask = λ b. row_at ws (repeat_place W b) W;
      scatter_mask = λ k j. row_at ws (three_place (scatter_at W) W k j) W;
      gather_mask = λ k j. row_at ws (three_place (gather_at W d) W k j) W;
      propagate_mask = λ k j. row_at ws (three_place (propagate_at W d) W k j) W;
      back_mask = λ k j. row_at ws (two_place (back_at W d) W k j) W;
      start_mask = start_words;
    }

-- ---- MASKS IN SERIES: mask j of the three of each depth below n, from a section's first word on; rows of zeros above, nine in all
abbrev pub rows_from : ℕ → ℕ → (ℕ → List ℕ) → List (List ℕ)
rows_from zero k f = []
rows_from (suc n) k f = f k ∷ rows_from n (suc k) f

abbrev pub series_at : List ℕ → (at W n j : ℕ) → List (List ℕ)
series_at ws at W n j = rows_from n 0 (λ k. row_at ws (three_place at W k j) W) ++ replicate (9 - n) (replicate 8 0)

abbrev pub Lessened : (source below : List (List ℕ)) → Type 0
Lessened source below = (k : ℕ) → k < 9 → get_or below k [] ≡ less_one (get_or source k [])

-- the mask of depth k of series j: scatter's three, gather's three, propagate's three with the source less one
abbrev pub series_row : List ℕ → (W d j k : ℕ) → List ℕ
series_row ws W d j k =
    let last = get_or (series_at ws (propagate_at W d) W (d + 1) (j - 6)) k [] in
    of_nine j (get_or (series_at ws (scatter_at W) W d j) k []) (get_or (series_at ws (gather_at W d) W d (j - 3)) k []) (less_one last) last

abbrev pub SeriesOf : List ℕ → (W d j : ℕ) → List (List ℕ) → Type 0
SeriesOf ws W d j masks = (k : ℕ) → k < 9 → get_or masks k [] ≡ series_row ws W d j k

-- ---- THE TABLE: the nine series side by side, and from row 81 on the source and the target of the back edges of each depth. What it is to put the first masks
-- of a series, and all; and to put the first rows of the back edges
pub record PutTo (count j : ℕ) (masks table new : List (List ℕ)) : Type 0 where
  pub here : (k : ℕ) → k < count → get_or new (9 * k + j) [] ≡ get_or masks k []
  pub there : (k i : ℕ) → i < 9 → i ≢ j → get_or new (9 * k + i) [] ≡ get_or table (9 * k + i) []
  pub long : length new ≡ length table

abbrev pub Put : (j : ℕ) (masks table new : List (List ℕ)) → Type 0
Put = PutTo 9

abbrev pub Entered : List ℕ → (W d : ℕ) → List (List ℕ) → Type 0
Entered ws W d table = (k j : ℕ) → k < 9 → j < 9 → get_or table (9 * k + j) [] ≡ series_row ws W d j k

pub record PutBacks (count : ℕ) (ws : List ℕ) (W d : ℕ) (table new : List (List ℕ)) : Type 0 where
  pub here : (i : ℕ) → i < count → get_or new (81 + i) [] ≡ row_at ws (back_at W d + W * i) W
  pub there : (i : ℕ) → i < 81 → get_or new i [] ≡ get_or table i []
  pub long : length new ≡ length table

pub record Tabled (ws : List ℕ) (W d : ℕ) (table : List (List ℕ)) : Type 0 where
  pub passes : Entered ws W d table
  pub backs : (i : ℕ) → i < 2 * d → get_or table (81 + i) [] ≡ row_at ws (back_at W d + W * i) W

-- the back edges' rows up to depth d are whole masks
abbrev pub Whole : List (List ℕ) → ℕ → Type 0
Whole table d = (i : ℕ) → i < 2 * d → length (get_or table (81 + i) []) ≡ 8

-- a row has all their sources: whatever is apart from it is apart from those of each depth
abbrev pub Sources : List (List ℕ) → ℕ → List ℕ → Type 0
Sources table d row = (n : ℕ) (live : List ℕ) → Apart n row live → (k : ℕ) → k < d → Apart n (get_or table (81 + 2 * k) []) live

-- a rule without a back edge
abbrev pub NoBack : List (List ℕ) → ℕ → Type 0
NoBack table d = Sources table d (replicate 8 0)

-- a depth's block, source and target; its back edges' source and target
abbrev pub three : (block source target : List ℕ) → ℕ → List ℕ
three block source target zero = block
three block source target (suc zero) = source
three block source target (suc (suc j)) = target

abbrev pub two : (source target : List ℕ) → ℕ → List ℕ
two source target zero = source
two source target (suc j) = target

-- letters and repeats where they lie, W words to a mask, the others in the table
abbrev pub work_masks : List ℕ → ℕ → List (List ℕ) → Masks
work_masks ws W table = record {
  letter_mask = λ b. row_at ws (letter_place W b) W;
  loop_mask = λ b. row_at ws (repeat_place W b) W;
  scatter_mask = λ k. three (get_or table (9 * k) []) (get_or table (9 * k + 1) []) (get_or table (9 * k + 2) []);
  gather_mask = λ k. three (get_or table (9 * k + 3) []) (get_or table (9 * k + 4) []) (get_or table (9 * k + 5) []);
  propagate_mask = λ k. three (get_or table (9 * k + 6) []) (plus_words (get_or table (9 * k + 7) []) true) (get_or table (9 * k + 8) []);
  back_mask = λ k. two (get_or table (81 + 2 * k) []) (get_or table (82 + 2 * k) []);
  start_mask = start_words;
}

-- the first n words of each mask
abbrev pub cut_masks : ℕ → Masks → Masks
cut_masks n M = record {
  letter_mask = λ b. take n (M.letter_mask b);
  loop_mask = λ b. take n (M.loop_mask b);
  scatter_mask = λ k j. take n (M.scatter_mask k j);
  gather_mask = λ k j. take n (M.gather_mask k j);
  propagate_mask = λ k j. take n (M.propagate_mask k j);
  back_mask = λ k j. take n (M.back_mask k j);
  start_mask = take n M.start_mask;
}

-- the masks of both rounds alone, which look at no letter
abbrev pub pass_masks : ℕ → List (List ℕ) → Masks
pass_masks n table = cut_masks n (work_masks [] 0 table)

-- a rule of n words to a mask: all its masks
abbrev pub rule_masks : List ℕ → ℕ → List (List ℕ) → Masks
rule_masks ws n table = cut_masks n (work_masks ws n table)

-- ONE BYTE on the first n words of eight: with one round, and with two
pub record Stepped (n : ℕ) (ws : List ℕ) (b d : ℕ) (table : List (List ℕ)) (live r : List ℕ) : Type 0 where
  pub made : let M = rule_masks ws n table in take n r ≡ pass_words M d (move_by M b (take n live))
  pub eight : length r ≡ 8

pub record SteppedOn (n : ℕ) (ws : List ℕ) (b d : ℕ) (table : List (List ℕ)) (live r : List ℕ) : Type 0 where
  pub made : take n r ≡ step_words (rule_masks ws n table) d b (take n live)
  pub eight : length r ≡ 8

-- no state
abbrev pub no_words : List ℕ
no_words = replicate 8 0

-- ---- what is asked
-- of one byte, for a rule of at least two words
pub record Steps (ws : List ℕ) (W d : ℕ) : Type 0 where
  pub wide : 2 ≤ W
  pub narrow : W ≤ 8
  pub long : repeat_place W 256 ≤ length ws
  pub shallow : d ≤ 8

-- of one byte of a rule with back edges, of which a row has all sources
pub record Turns (ws : List ℕ) (W d : ℕ) (table : List (List ℕ)) (row : List ℕ) : Type 0 where
  pub steps : Steps ws W d
  pub whole : Whole table d
  pub sources : Sources table d row

-- of the loop over a stretch
pub record Overs (ws stretch : List ℕ) (place found W d last : ℕ) (table : List (List ℕ)) : Type 0 where
  pub steps : Steps ws W d
  pub limits : Limits place found stretch
  pub within : last < 64 * W
  pub whole : Whole table d

-- of a stretch from the words of a mask: as many of them as the image's masks have
pub record Goes (ws : List ℕ) (p : Sections) (mask : List ℕ) (place : ℕ) (stretch : List ℕ) : Type 0 where
  pub placed : Placed ws p
  pub long : length mask ≡ p.width
  pub limits : Limits place 0 stretch
