-- WHAT IT IS TO READ FROM A PLACE ON: the model (`Read`) got a value, and from a place on nothing is read yet; or it stops at the place of the first
-- byte that cannot be read. No place lies past the rule's end.
use Rattle.std.specs.Prelude.{◌≡◌, Bool, Err, List, ℕ, ◌≤◌, Ok, Result, drop, length}
use Rattle.model.specs.Models.Places.{StopsAt, TakesAt}
use Rattle.model.specs.Models.Reader.{bad, got, Read}
use Rattle.rule_bytes.specs.declared.Unreadable.{Unreadable}

module _ {A : Type 0} (rule : List ℕ) (m : Read A) where
  -- the model got a, and the bytes from p on are left
  pub record Took (a : A) (p : ℕ) : Type 0 where
    pub reads : m ≡ got a (drop p rule)
    pub inside : p ≤ length rule

  -- the model stops at the bytes from p on
  pub record Stopped (p : ℕ) : Type 0 where
    pub reads : m ≡ bad (drop p rule)
    pub inside : p ≤ length rule

-- ---- a reader's answer
-- a value, which `of` turns into the model's, and the place after it; or the place of the first byte that cannot be read
module _ {A B : Type 0} (of : B → A) where
  abbrev pub Says : List ℕ → Read A → Result (B × ℕ) Unreadable → Type 0
  Says rule m (Ok r) = Took rule m (of r.0) r.1
  Says rule m (Err e) = Stopped rule m e.0

  -- what its place means for the texts X that are read, each before bytes that pass the test F
  abbrev pub Placed : (X : List ℕ → A → Type 0) (F : List ℕ → Bool) → List ℕ → (at : ℕ) → Result (B × ℕ) Unreadable → Type 0
  Placed X F rule at (Ok r) = TakesAt X F rule at r.1 (of r.0)
  Placed X F rule at (Err e) = StopsAt X F rule at e.0
