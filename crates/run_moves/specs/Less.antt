-- THE MASK OF STATE 0, AND A SOURCE KEPT LESS ONE.
use Rattle.std.specs.Prelude.{Bool, false, ◌&&◌, List, [], ◌∷◌, ℕ, ◌-◌, ◌^◌, eqb, replicate, take}
use Rattle.model.specs.Bits.{digit}
use Rattle.model.specs.Models.Words.{subtract_words, wrap_add}

-- the mask of state 0
abbrev pub start_words : List ℕ
start_words = 1 ∷ replicate 7 0

-- one more than the number of words, and one less: a source is kept less one, as (source - 1) - from is the complement of from - source
abbrev pub plus_words : List ℕ → Bool → List ℕ
plus_words [] c = []
plus_words (x ∷ xs) c = wrap_add x (digit c) ∷ plus_words xs (c && eqb x (2 ^ 64 - 1))

abbrev pub less_one : List ℕ → List ℕ
less_one xs = subtract_words (take 8 xs) start_words false
