-- HOW LONG THE PARTS ARE: a mask has eight words, whether it is made for a byte or is a row of a table, and its first W go into the image.
use mathlib.Core.Path.{◌≡◌, sym, ◌∙◌}
use mathlib.Core.List.{List, []}
use Prim.Native.Nat.{ℕ, suc, ◌+◌, ◌*◌, ◌≤◌, ◌<◌}
use native.Mathlib.Nat.{mul_comm}
use native.Mathlib.Omega.{arith}
use lib.Bits.{bit_and}
use lib.ListN.{get_or, length, take}
use lib.Seq.{length-take-le}
use Rattle.model.proofs.Image.Rows.{length-set}
use Rattle.model.proofs.Words.Operations.{each_length}
use Rattle.tokens_masks.specs.Masks.{planes, row_in, row_number}
use Rattle.tokens_masks.specs.Tables.{Table}
use Rattle.tokens_masks.proofs.InWords.{row_long}
use Rattle.image.specs.Work.{depth_masks, leads, letter_row, repeat_row, three_rows, two_rows}
use Rattle.image.proofs.Laws.Parts.{AllLong, length_joined}

pub length_row : {W : ℕ} (row : List ℕ) → W ≤ 8 → length row ≡ 8 → length (take W row) ≡ W
length_row {W} row h e = length-take-le W row (omega arith)

-- ---- the masks of bytes
module _ {W : ℕ} (row : List ℕ) (n : ℕ) (narrow : W ≤ 8) where
  length_letters : (b : ℕ) → length (letter_row row n b) ≡ 8
  length_letters b = length-set (suc n) 8 (leads row b)

  pub letter_long : (b : ℕ) → length (take W (letter_row row n b)) ≡ W
  letter_long b = length_row (letter_row row n b) narrow (length_letters b)

  pub letters_long : AllLong W 256 (λ b. take W (letter_row row n b))
  letters_long b h = letter_long b

  pub repeats_long : (loops : List ℕ) → length loops ≡ 8 → AllLong W 256 (λ b. take W (repeat_row row n loops b))
  repeats_long loops e b h =
      length_row (repeat_row row n loops b) narrow (each_length bit_and (letter_row row n b) loops (length_letters b ∙ sym e) ∙ length_letters b)

-- ---- the rows of tables
-- the three rows of depth k
abbrev pub depth_rows : ℕ → Table → Table → Table → ℕ → List ℕ
depth_rows W block source target k = three_rows W (get_or block k []) (get_or source k []) (get_or target k [])

-- the two rows of the back edges of depth k
abbrev pub back_rows : ℕ → Table → Table → ℕ → List ℕ
back_rows W source target k = two_rows W (get_or source k []) (get_or target k [])

-- and the masks that lay out lends, of planes one after another
plane_long : {W : ℕ} (ms : List ℕ) (k i : ℕ) → W ≤ 8 → k < 9 → i < planes → length ms ≡ 936 → length (take W (row_in ms (row_number k i))) ≡ W
plane_long ms k i narrow h hi long = length_row (row_in ms (row_number k i)) narrow (row_long ms (row_number k i) (omega arith))

pub masks_long : {W n : ℕ} (count : ℕ) (ms : List ℕ) (first : ℕ) → W ≤ 8 → n ≤ 9 → first + count ≤ planes → length ms ≡ 936
    → AllLong (count * W) n (depth_masks W first count ms)
masks_long {W} count ms first narrow few hi long k h =
    length_joined W count (λ j. take W (row_in ms (row_number k (first + j)))) (λ j m. plane_long ms k (first + j) narrow (omega arith) (omega arith) long)
    ∙ mul_comm W count
