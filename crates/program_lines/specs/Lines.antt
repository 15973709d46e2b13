-- LINES AND NUMBERS (document 01, "The desk program"), and a text in lent bytes.
use Rattle.std.specs.Prelude.{◌≡◌, cond, List, [], ◌∷◌, ◌++◌, ℕ, zero, suc, ◌+◌, ◌/◌, ◌%◌, eqb, length}
use Rattle.model.specs.Answers.{done}
use Rattle.model.specs.Bytes.{byte, bytes}

-- "Byte 10 closes every line."
abbrev pub line : List ℕ → List ℕ
line l = l ++ (10 ∷ [])

-- the decimal digits of a number with no 0 in front, so none for 0; at most so many of them
abbrev pub digits_of : (most : ℕ) → ℕ → List ℕ
digits_of zero n = []
digits_of (suc most) zero = []
digits_of (suc most) (suc n) = digits_of most (suc n / 10) ++ ((byte "0" + suc n % 10) ∷ [])

-- a number in decimal: those of its tens, and its last digit
abbrev pub decimal : ℕ → List ℕ
decimal n = digits_of n (n / 10) ++ ((byte "0" + n % 10) ∷ [])

-- "The first refusal writes only the line `refused N`."; and with 2 also the place, "`refused 2 at P`" (document 02, Wish 2)
abbrev pub refused_text : (number place : ℕ) → List ℕ
refused_text n p = cond (eqb n 2) (line (bytes "refused 2 at " ++ decimal p)) (line (bytes "refused " ++ decimal n))

-- "Rule `a`, journal `aba` gives the four lines `a`, `total 2`, `1`, `3`."
abbrev pub total_text : ℕ → List ℕ
total_text n = line (bytes "total " ++ decimal n)

abbrev pub end_lines : List ℕ → List ℕ
end_lines [] = []
end_lines (p ∷ ps) = line (decimal p) ++ end_lines ps

-- a text of which something is said, into lent bytes: its length is given, and what fits of it is written
pub record Reports (Says : List ℕ → Type 0) (before : List ℕ) (r : ℕ) (after : List ℕ) : Type 0 where
  pub text : List ℕ
  pub says : Says text
  pub long : r ≡ length text
  pub lent : after ≡ (done text before).lent
