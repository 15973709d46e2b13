-- THE SOURCES AMONG THE n PLACES FROM EACH PLACE ON, as two words: whether there is one, and whether the first of them is live. There is one exactly if
-- the first of them is a source.
use Rattle.std.specs.Prelude.{◌≡◌, false, ℕ, ◌+◌}
use Rattle.model.specs.Bits.{bit}
use Rattle.model.specs.Models.Run.{ahead}
use Rattle.run_back.specs.declared.Near.{Near}

pub record Seen (n source live : ℕ) (near : Near) : Type 0 where
  pub any : (x : ℕ) → bit near.some x ≡ ahead n false (bit source) (bit source) x
  pub lives : (x : ℕ) → bit near.first x ≡ ahead n false (bit source) (bit live) x

-- what is seen of n places, made what is seen of twice as many
abbrev pub Doubled : (n : ℕ) (near far : Near) → Type 0
Doubled n near far = (source live : ℕ) → Seen n source live near → Seen (n + n) source live far
