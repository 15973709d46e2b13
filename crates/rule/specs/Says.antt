-- WHAT READING A RULE SAYS: the rows of build's table up to number 3, in the terms of document 01, and the tokens of the tree.
use Rattle.std.specs.Prelude.{◌≡◌, cond, List, [], ℕ, ◌+◌, ◌≤◌, ◌<◌, ltb, length, Result, Ok, Err}
use Rattle.model.specs.Edges.{states}
use Rattle.model.specs.Grammar.{IsRule}
use Rattle.model.specs.Models.Tokens.{tokens}
use Rattle.model.specs.Place.{PlaceIs}
use Rattle.model.specs.Tree as tree
use Rattle.answers.specs.declared.Refusal.{Refusal}
use Rattle.answers.specs.declared.Refusal.TheVariants.{NotARule, RuleTooLong, TooManyStates}
use Rattle.rule.specs.Tokens.{room_with}
use Rattle.rule.specs.declared.parts.Part.{Part}
use Rattle.rule.specs.declared.Tree.{Tree}

-- a tree by its states and its tokens' words
abbrev pub tree_of : ℕ → List ℕ → Tree
tree_of m row = record { states = m; tokens = row }

pub data ReadSays (rule : List ℕ) (r : Result Tree Refusal) : Type 0 where
  too_long : 1024 < length rule → r ≡ Err RuleTooLong → ReadSays rule r
  not_a_rule : (p : ℕ) → length rule ≤ 1024 → ((t : tree.Tree) → IsRule rule t → ⊥) → PlaceIs rule p → r ≡ Err (NotARule p) → ReadSays rule r
  too_many_states : (t : tree.Tree) → length rule ≤ 1024 → IsRule rule t → 512 < states t → r ≡ Err TooManyStates → ReadSays rule r
  read : (t : tree.Tree) → length rule ≤ 1024 → IsRule rule t → states t ≤ 512 → r ≡ Ok (tree_of (states t) (room_with (tokens t []))) → ReadSays rule r

-- how many states, by the whole rule read as one item, and the rule's length
abbrev pub states_of : Part → ℕ → Result ℕ Refusal
states_of whole n = cond (ltb whole.place n) (Err (NotARule whole.place)) (cond (ltb 511 whole.next) (Err TooManyStates) (Ok (whole.next + 1)))
