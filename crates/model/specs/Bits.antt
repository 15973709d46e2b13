-- NUMBERS AS SETS: a class is the number whose bit b says that byte b is in it, a mask the number whose bit i says that state i is.
use Rattle.std.specs.Prelude.{Bool, true, false, ℕ, zero, suc, ◌+◌, ◌*◌, ◌/◌, ◌%◌, eqb}

-- bit i of a number
abbrev pub bit : ℕ → ℕ → Bool
bit n zero = eqb (n % 2) 1
bit n (suc i) = bit (n / 2) i

abbrev pub digit : Bool → ℕ
digit true = 1
digit false = 0

-- the number whose bits below m are those of f, and no others
abbrev pub mask : ℕ → (ℕ → Bool) → ℕ
mask zero f = 0
mask (suc m) f = digit (f zero) + 2 * mask m (λ i. f (suc i))
