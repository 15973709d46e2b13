-- WHERE A RUN OF A CLASS BEGINS AND ENDS: the first byte in the class, or out of it, from a byte on.
use Rattle.std.specs.Prelude.{◌≡◌, true, false, ℕ, ◌≤◌, ◌<◌}
use Rattle.model.specs.Bits.{bit}

-- the first byte from b on that is in the class c, or that is not; 256 if there is none
pub record FirstIn (c b r : ℕ) : Type 0 where
  pub from : b ≤ r
  pub upto : r ≤ 256
  pub skipped : (x : ℕ) → b ≤ x → x < r → bit c x ≡ false
  pub hit : r < 256 → bit c r ≡ true

pub record FirstOut (c b r : ℕ) : Type 0 where
  pub from : b ≤ r
  pub upto : r ≤ 256
  pub skipped : (x : ℕ) → b ≤ x → x < r → bit c x ≡ true
  pub hit : r < 256 → bit c r ≡ false
