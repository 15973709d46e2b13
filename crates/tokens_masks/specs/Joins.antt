-- JOINS: two tables made one, word by word.
use Rattle.std.specs.Prelude.{[], ◌∷◌, ℕ, ◌-◌, ◌^◌}
use Rattle.std.specs.Int.Bits.{bit_and, bit_or}
use Rattle.model.specs.Models.Words.{each_word}
use Rattle.tokens_masks.specs.Tables.{Table}

-- the states of either; those of the first that are not in the second
pub data Join : Type 0 where
  Either Only : Join

abbrev pub join_word : Join → ℕ → ℕ → ℕ
join_word Either x y = bit_or x y
join_word Only x y = bit_and x (2 ^ 64 - 1 - y)

abbrev pub join_tables : Join → Table → Table → Table
join_tables j [] bs = []
join_tables j (a ∷ rest) [] = []
join_tables j (a ∷ rest) (b ∷ bs) = each_word (join_word j) a b ∷ join_tables j rest bs
