-- WHAT STORE SAYS: of the tokens of a rule's tree the rows of build's table from number 4 on, in the terms of document 01.
use Rattle.std.specs.Prelude.{◌≡◌, List, [], ℕ, ◌*◌, ◌≤◌, ◌<◌, length, take}
use Rattle.model.specs.Answers.{Counted, done, refused}
use Rattle.model.specs.Edges.{depth, states}
use Rattle.model.specs.Grammar.{IsRule}
use Rattle.model.specs.Image.{image}
use Rattle.model.specs.Models.Tokens.{tokens}
use Rattle.model.specs.Tree.{Tree}
use Rattle.tokens.specs.Rows.{row_words}

-- the first n of the tokens are those of the tree of a rule, which has at most 512 states
pub record TokensOf (t : Tree) (row : List ℕ) (n : ℕ) : Type 0 where
  pub rule : List ℕ
  pub is_rule : IsRule rule t
  pub few : states t ≤ 512
  pub long : n ≡ length (tokens t [])
  pub are : take (5 * n) row ≡ row_words (tokens t [])

abbrev pub OfRule : List ℕ → ℕ → Type 0
OfRule row n = (t : Tree) × TokensOf t row n

pub data TreeSays (t : Tree) (before : List ℕ) (a : Counted) : Type 0 where
  too_deep : 8 < depth t → a ≡ refused 4 before → TreeSays t before a
  no_room : depth t ≤ 8 → length before < length (image t) → a ≡ refused 5 before → TreeSays t before a
  stored : depth t ≤ 8 → length (image t) ≤ length before → a ≡ done (image t) before → TreeSays t before a

abbrev pub StoreSays : List ℕ → ℕ → List ℕ → Counted → Type 0
StoreSays row n before a = (t : Tree) → TokensOf t row n → TreeSays t before a
