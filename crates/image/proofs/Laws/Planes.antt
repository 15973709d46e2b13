-- THE MASKS OF PLANES ONE AFTER ANOTHER, of the masks that lay out lends, are the rows of those planes' tables.
use mathlib.Core.Path.{◌≡◌, sym, ap, ◌∙◌}
use mathlib.Core.List.{List, [], ◌++◌, append-nil}
use Prim.Native.Nat.{ℕ, ◌+◌, ◌≤◌, ◌<◌}
use native.Mathlib.Omega.{arith}
use lib.ListN.{get_or, take}
use Rattle.model.specs.Image.{join}
use Rattle.model.proofs.Image.Rows.{join_same}
use Rattle.tokens_masks.specs.Masks.{row_in, row_number, table_in}
use Rattle.tokens_masks.proofs.InWords.{table_row}
use Rattle.image.specs.Work.{depth_masks, three_rows, two_rows}
use Rattle.image.proofs.Laws.Lengths.{back_rows, depth_rows}

module _ (W depths first : ℕ) (ms : List ℕ) (few : depths ≤ 9) where
  row_is : (k i : ℕ) → k < 9 → take W (row_in ms (row_number k (first + i))) ≡ take W (get_or (table_in ms (first + i)) k [])
  row_is k i h = ap (take W) (sym (table_row ms (first + i) k h))

  pub three_masks : join depths 0 (depth_masks W first 3 ms) ≡ join depths 0 (depth_rows W (table_in ms (first + 0)) (table_in ms (first + 1)) (table_in ms (first + 2)))
  three_masks =
      join_same depths 0 (depth_masks W first 3 ms) (depth_rows W (table_in ms (first + 0)) (table_in ms (first + 1)) (table_in ms (first + 2))) (λ k l. rows k (omega arith))
    where
      rows : (k : ℕ) → k < 9 → depth_masks W first 3 ms k ≡ three_rows W (get_or (table_in ms (first + 0)) k []) (get_or (table_in ms (first + 1)) k []) (get_or (table_in ms (first + 2)) k [])
      rows k h = λ i. row_is k 0 h i ++ (row_is k 1 h i ++ (append-nil (take W (row_in ms (row_number k (first + 2)))) ∙ row_is k 2 h) i)

  pub two_masks : join depths 0 (depth_masks W first 2 ms) ≡ join depths 0 (back_rows W (table_in ms (first + 0)) (table_in ms (first + 1)))
  two_masks =
      join_same depths 0 (depth_masks W first 2 ms) (back_rows W (table_in ms (first + 0)) (table_in ms (first + 1))) (λ k l. rows k (omega arith))
    where
      rows : (k : ℕ) → k < 9 → depth_masks W first 2 ms k ≡ two_rows W (get_or (table_in ms (first + 0)) k []) (get_or (table_in ms (first + 1)) k [])
      rows k h = λ i. row_is k 0 h i ++ (append-nil (take W (row_in ms (row_number k (first + 1)))) ∙ row_is k 1 h) i
