-- THE CLASSES OF AN IMAGE'S LETTERS, as a table of four words for each state of a column: byte b of its state k is bit 256 k + b of the number that all the
-- table's words make.
use Rattle.std.specs.Prelude.{◌≡◌, Bool, ◌&&◌, ◌||◌, List, [], ◌∷◌, ℕ, ◌+◌, ◌*◌, ◌<◌, eqb, get_or, length}
use Rattle.model.specs.Bits.{bit, mask}
use Rattle.model.specs.Models.Sections.{bit_of, letters_in}
use Rattle.model.specs.Models.Words.{Fit, value}

-- the class that a table has for a state of its column, as words and as a number
abbrev pub four_of : List ℕ → (k : ℕ) → List ℕ
four_of table k = get_or table (4 * k) 0 ∷ get_or table (4 * k + 1) 0 ∷ get_or table (4 * k + 2) 0 ∷ get_or table (4 * k + 3) 0 ∷ []

abbrev pub class_in : List ℕ → (k : ℕ) → ℕ
class_in table k = value (four_of table k)

-- the bytes that lead to a state
abbrev pub class_to : List ℕ → (W state : ℕ) → ℕ
class_to ws W state = mask 256 (λ b. bit_of W (letters_in ws) b state)

-- WHAT THE TABLE OF A COLUMN HAS
abbrev pub ColumnOf : List ℕ → (W column : ℕ) → List ℕ → Type 0
ColumnOf ws W column table = (k : ℕ) → k < 64 → class_in table k ≡ class_to ws W (64 * column + k)

-- ---- how it is filled
pub record Table (table : List ℕ) : Type 0 where
  pub long : length table ≡ 256
  pub fit : Fit table

-- whether it has a byte for a state
abbrev pub has : List ℕ → (k byte : ℕ) → Bool
has table k b = bit (value table) (256 * k + b)

-- one byte more for the states that a word has
pub record With (before : List ℕ) (byte word : ℕ) (after : List ℕ) : Type 0 where
  pub table : Table after
  pub bytes : (k b : ℕ) → b < 256 → has after k b ≡ (has before k b || (eqb b byte && bit word k))
