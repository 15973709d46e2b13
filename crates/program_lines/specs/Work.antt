-- WHAT THE FUNCTIONS SAY THAT WRITE THE LINES: bytes stored from a place on, and the place after them. A store past the end of what was lent changes nothing.
use Rattle.std.specs.Prelude.{◌≡◌, List, ℕ, ◌+◌, length}
use Rattle.std.proofs.lemmas.List.Edits.{sets}

pub record PutAt (bytes before : List ℕ) (at r : ℕ) (after : List ℕ) : Type 0 where
  pub place : r ≡ at + length bytes
  pub stored : after ≡ sets before at bytes
