-- TWO ROWS AS SETS OF STATES, by their first n words: no state is in both; every state of the second is in the first.
use Rattle.std.specs.Prelude.{◌≡◌, Bool, false, true, List, ℕ, ◌<◌, get_or}
use Rattle.std.specs.Int.Bits.{bit_and, bit_or}

abbrev pub Apart : ℕ → List ℕ → List ℕ → Type 0
Apart n xs ys = (i : ℕ) → i < n → bit_and (get_or xs i 0) (get_or ys i 0) ≡ 0

abbrev pub Holds : ℕ → List ℕ → List ℕ → Type 0
Holds n xs ys = (i : ℕ) → i < n → bit_or (get_or xs i 0) (get_or ys i 0) ≡ get_or xs i 0

-- whether a state is in both
abbrev pub Meets : ℕ → List ℕ → List ℕ → Bool → Type 0
Meets n xs ys r = (r ≡ false → Apart n xs ys) × (r ≡ true → Apart n xs ys → ⊥)
