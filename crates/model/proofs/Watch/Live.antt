-- LIVE STATES OVER A TEXT CUT IN TWO. From the same states the same are live, and all that become live are the tree's.
use mathlib.Core.Path.{◌≡◌}
use mathlib.Core.Logic.{◌⊎◌, inl, inr, ◌↔◌}
use mathlib.Core.List.{List, [], ◌∷◌, ◌++◌}
use Prim.Native.Nat.{ℕ, ◌<◌}
use native.Mathlib.Omega.{arith}
use Rattle.model.specs.Edges.{states}
use Rattle.model.specs.Live.{After, Before, LiveFrom, Takes}
use Rattle.model.specs.Tree.{Tree}
use Rattle.model.proofs.Definitions.Below.{reached_below, takes_below}
use Rattle.model.proofs.Definitions.Live.{live_map}

module _ (t : Tree) where
  -- from the same states
  pub live_as : (text : List ℕ) {D E : ℕ → Type 0} → ((q : ℕ) → D q ↔ E q) → (q : ℕ) → LiveFrom t D text q ↔ LiveFrom t E text q
  live_as text e q = (live_map t text (λ x. (e x).0) q, live_map t text (λ x. (e x).1) q)

  -- OVER A TEXT CUT IN TWO
  pub live_app : (u v : List ℕ) (D : ℕ → Type 0) (q : ℕ) → LiveFrom t D (u ++ v) q ↔ LiveFrom t (LiveFrom t D u) v q
  live_app [] v D q = (λ h. h, λ h. h)
  live_app (b ∷ u) v D q = live_app u v (After t b D) q

  -- ---- THEY ARE THE TREE'S
  abbrev Below : (ℕ → Type 0) → Type 0
  Below D = (q : ℕ) → D q → q < states t

  pub before_below : Below (Before t)
  before_below = reached_below t (λ q e. omega arith)

  after_below : (b : ℕ) (D : ℕ → Type 0) → Below (After t b D)
  after_below b D = reached_below t go
    where
      go : (r : ℕ) → (r ≡ 0) ⊎ ((q : ℕ) × D q × Takes t b q r) → r < states t
      go r (inl e) = omega arith
      go r (inr m) = takes_below t b m.0 r m.2

  pub live_below : (text : List ℕ) {D : ℕ → Type 0} → Below D → Below (LiveFrom t D text)
  live_below [] f = f
  live_below (b ∷ text) {D} f = live_below text (after_below b D)
