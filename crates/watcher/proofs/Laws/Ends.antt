-- A TEXT HAS AT MOST ONE END MORE THAN BYTES, for its ends rise from 0 to its length; a stretch has at most as many as bytes.
use mathlib.Core.Logic.{inl, inr}
use mathlib.Core.Path.{refl}
use mathlib.Core.List.{List, [], ◌∷◌}
use Prim.Native.Nat.{ℕ, suc, ◌+◌, ◌≤◌}
use native.Mathlib.Omega.{arith}
use lib.ListN.{length}
use Rattle.model.specs.Ends.{EndsAre, Rising}
use Rattle.model.specs.Lists.{◌∈◌}
use Rattle.model.specs.Tree.{Tree}
use Rattle.model.specs.Watch.{EndsIn}
use Rattle.model.proofs.Definitions.Ends.{end_stops}
use Rattle.model.proofs.Laws.Lists.{all_in}

-- a rising list between p and n has at most so many elements
rising_few : (ps : List ℕ) (p n : ℕ) → Rising ps → p ≤ suc n → ((x : ℕ) → x ∈ ps → (p ≤ x) × (x ≤ n)) → length ps + p ≤ suc n
rising_few [] p n R l f = omega (arith, l)
rising_few (x ∷ ps) p n R l f =
    let h = f x (inl refl) in
    omega (arith, h.0, rising_few ps (suc x) n R.1 (omega (arith, h.1)) (λ y k. (all_in (λ (z : ℕ). suc x ≤ z) ps R.0 y k, (f y (inr k)).1)))

module _ (t : Tree) (text ends : List ℕ) (E : EndsAre t text ends) where
  pub end_within : (p : ℕ) → p ∈ ends → p ≤ length text
  end_within p h = ((end_stops t text p).0 (E.ends p h)).0

  pub ends_few : length ends ≤ suc (length text)
  ends_few = omega (arith, rising_few ends 0 (length text) E.rising (omega arith) (λ x h. (omega arith, end_within x h)))

pub stretch_ends_few : {t : Tree} {D : ℕ → Type 0} {place : ℕ} {stretch ends : List ℕ} → EndsIn t D place stretch ends → length ends ≤ length stretch
stretch_ends_few {place = place} {stretch} {ends} E =
    omega (arith, rising_few ends (suc place) (place + length stretch) E.rising (omega arith) (λ x h. let e = E.ends x h in (omega (arith, e.1, e.2), omega (arith, e.1, e.3))))
