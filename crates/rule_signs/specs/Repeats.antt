-- THE NUMBERS IN BRACES: the parts of the models that read them.
use Rattle.std.specs.Prelude.{List, ℕ, max, ◌≤◌}
use Rattle.model.specs.Bytes.{byte}
use Rattle.model.specs.Grammar.{plainly, Sign, times}
use Rattle.model.specs.Models.Reader.{bind, case, got, past, Read, read_number}

-- the second number, at least m, of a pair whose first is x
abbrev pub last_bound : ℕ → ℕ → List ℕ → Read (ℕ × ℕ)
last_bound x m l = bind (read_number m l) (λ y r. got (x, y) r)

-- what is read after the first number x
abbrev pub after_first : ℕ → List ℕ → Read (ℕ × ℕ)
after_first x r = case (past (byte ",") r) (λ z r'. last_bound x (max x 1) r') (got (x, x) r)

-- how far the numbers of a sign go
abbrev pub Bounded : Sign → Type 0
Bounded (plainly r) = Unit {0}
Bounded (times x y) = (x ≤ y) × (1 ≤ y) × (y ≤ 999)
