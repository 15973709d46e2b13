-- WHAT THE CHECK SAYS, in the terms of document 01: an image exactly if the words are one, with the places of its sections and the tape of the tree
-- whose image they are.
use Rattle.std.specs.Prelude.{◌≡◌, Option, None, Some, List, ℕ}
use Rattle.model.specs.Answers.{ImageOf, NoImage}
use Rattle.model.specs.Edges.{depth, states}
use Rattle.model.specs.Tree.{Tree}
use Rattle.image_sections.specs.Sections.{sections_of}
use Rattle.tokens_masks.specs.Tapes.{TapeOf}
use Rattle.image_check.specs.declared.Checked.{Checked}

pub data CheckSays (words : List ℕ) (r : Option Checked) : Type 0 where
  is_image : (t : Tree) → ImageOf words t → (c : Checked) → r ≡ Some c → c.image.words.now ≡ words
      → c.image.sections ≡ sections_of (states t) (depth t) → TapeOf t c.tape → CheckSays words r
  is_other : NoImage words → r ≡ None → CheckSays words r
