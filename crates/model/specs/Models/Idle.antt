-- IDLE DEPTHS (document 02): "A scatter or gather with no live source, or a propagate with no live state in its blocks, may be passed over."
use Rattle.std.specs.Prelude.{◌≡◌, List, ℕ, ◌≤◌, ◌<◌, get_or, replicate}
use Rattle.std.specs.Int.Bits.{bit_and}
use Rattle.model.specs.Models.Run.{gather_by, Masks, propagate_by, scatter_by}

-- no state is in both rows
abbrev pub Clear : (live touched : List ℕ) → Type 0
Clear live touched = (i : ℕ) → bit_and (get_or live i 0) (get_or touched i 0) ≡ 0

-- masks of n words with which no pass at the inner depths makes a state live out of none: an image's are so
pub record Calm (M : Masks) (n d : ℕ) : Type 0 where
  pub scatters : (k : ℕ) → k < d → scatter_by M k (replicate n 0) ≡ replicate n 0
  pub gathers : (k : ℕ) → k < d → gather_by M k (replicate n 0) ≡ replicate n 0
  pub chains : (k : ℕ) → 0 < k → k ≤ d → propagate_by M k (replicate n 0) ≡ replicate n 0

-- what is live touches nothing that the way up, or the way down, could move at the inner depths
pub record IdleUp (M : Masks) (d : ℕ) (live : List ℕ) : Type 0 where
  pub gathers : (k : ℕ) → k < d → Clear live (M.gather_mask k 1)
  pub chains : (k : ℕ) → 0 < k → k ≤ d → Clear live (M.propagate_mask k 0)

pub record IdleDown (M : Masks) (d : ℕ) (live : List ℕ) : Type 0 where
  pub scatters : (k : ℕ) → k < d → Clear live (M.scatter_mask k 1)
  pub chains : (k : ℕ) → 0 < k → k ≤ d → Clear live (M.propagate_mask k 0)
