-- A mask in the image is the first W of the eight words of the mask in work.
use mathlib.Core.Path.{◌≡◌, refl, ap}
use mathlib.Core.Bool.{Bool}
use mathlib.Core.List.{List, ◌∷◌}
use Prim.Native.Nat.{ℕ, zero, suc, ◌/◌, ◌%◌, ◌^◌, ◌≤◌}
use native.Mathlib.Nat.{le_of_suc-le-suc, not-suc-le-zero}
use lib.ListN.{take}
use Rattle.model.specs.Image.{words}
use Rattle.model.specs.Models.LayOut.{set}

take_words : (W n x : ℕ) → W ≤ n → take W (words n x) ≡ words W x
take_words zero n x h = refl
take_words (suc W) zero x h = absurd (not-suc-le-zero h)
take_words (suc W) (suc n) x h = ap (λ (ws : List ℕ). x % 2 ^ 64 ∷ ws) (take_words W n (x / 2 ^ 64) (le_of_suc-le-suc h))

pub first_words : (m W : ℕ) (f : ℕ → Bool) → W ≤ 8 → take W (set m 8 f) ≡ set m W f
first_words m W f h = take_words W 8 _ h
