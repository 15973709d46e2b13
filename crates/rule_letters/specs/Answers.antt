-- WHAT THE READERS' ANSWERS SAY of what the models read (`Read`): a value with the place from which on nothing is read yet, or the place of the
-- first byte that cannot be read. The readers of singles, classes and letters tell as well what that place means (`TakesAt`, `StopsAt`).
use Rattle.std.specs.Prelude.{List, ◌∷◌, ℕ, ◌≤◌, Result, drop, length}
use Rattle.model.specs.Bytes.{byte}
use Rattle.model.specs.Grammar.{IsLetter, IsSingle}
use Rattle.model.specs.Models.Places.{anything, Least}
use Rattle.model.specs.Models.Reader.{Read, read_letter, read_single}
use Rattle.rule_bytes.specs.Places.{Placed, Says}
use Rattle.rule_bytes.specs.declared.Unreadable.{Unreadable}
use Rattle.rule_letters.specs.Classes.{after_bracket, bytes_of}
use Rattle.rule_letters.specs.declared.classes.Class.{Class}

abbrev pub ByteSays : List ℕ → Read ℕ → Result (ℕ × ℕ) Unreadable → Type 0
ByteSays = Says (λ b. b)

abbrev pub LetterSays : List ℕ → Read ℕ → Result (Class × ℕ) Unreadable → Type 0
LetterSays = Says bytes_of

-- a single of at least lo
pub record SingleTells (lo : ℕ) (rule : List ℕ) (at : ℕ) (r : Result (ℕ × ℕ) Unreadable) : Type 0 where
  pub reads : ByteSays rule (read_single lo (drop at rule)) r
  pub place : Placed (λ b. b) (Least lo IsSingle) anything rule at r

-- a class, after its `[`
pub record ClassTells (rule : List ℕ) (at : ℕ) (r : Result (Class × ℕ) Unreadable) : Type 0 where
  pub reads : LetterSays rule (after_bracket (drop at rule)) r
  pub place : Placed bytes_of (λ w. IsLetter (byte "[" ∷ w)) anything rule at r

-- a letter; of a place past the rule's end nothing is told
pub record LetterTells (rule : List ℕ) (at : ℕ) (r : Result (Class × ℕ) Unreadable) : Type 0 where
  pub reads : LetterSays rule (read_letter (drop at rule)) r
  pub place : at ≤ length rule → Placed bytes_of IsLetter anything rule at r
