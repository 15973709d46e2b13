-- THE PLACE (document 02, Wish 2): "the length of the longest beginning of the rule that is also the beginning of some text in the grammar".
use Rattle.std.specs.Prelude.{List, ◌++◌, ℕ, ◌≤◌, length, take}
use Rattle.model.specs.Tree.{Tree}
use Rattle.model.specs.Grammar.{IsRule}

-- "the beginning of some text in the grammar": some text makes it a rule, however long, with however many states and however deep
pub record Beginning (u : List ℕ) : Type 0 where
  pub rest : List ℕ
  pub tree : Tree
  pub is_rule : IsRule (u ++ rest) tree

-- p is the length of the longest beginning of the text that is one
pub record PlaceIs (text : List ℕ) (p : ℕ) : Type 0 where
  pub inside : p ≤ length text
  pub begins : Beginning (take p text)
  pub longest : (k : ℕ) → k ≤ length text → Beginning (take k text) → k ≤ p
