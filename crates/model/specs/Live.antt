-- LIVE STATES (document 01, "States and edges", last paragraph).
use Rattle.std.specs.Prelude.{◌≡◌, ◌⊎◌, Bool, true, false, ◌||◌, List, [], ◌∷◌, ℕ, T}
use Rattle.model.specs.Lists.{◌∈◌}
use Rattle.model.specs.Tree.{Tree}
use Rattle.model.specs.Edges.{back_edge, by_letter, by_loop, edge, EdgeKind, edges, gather_edge, letter_edge, loop_edge, propagate_edge, scatter_edge}

-- all that a set of states reaches by the edges of R
pub data Reached (R : ℕ → ℕ → Type 0) (D : ℕ → Type 0) : ℕ → Type 0 where
  itself : {q : ℕ} → D q → Reached R D q
  onward : {q r : ℕ} → Reached R D q → R q r → Reached R D r

-- an edge "without a letter" from q to r, and one that takes the byte b
abbrev pub letterless : EdgeKind → Bool
letterless (letter_edge c) = false
letterless (loop_edge c) = false
letterless propagate_edge = true
letterless scatter_edge = true
letterless gather_edge = true
letterless back_edge = true

abbrev pub Free : Tree → ℕ → ℕ → Type 0
Free t q r = (e : EdgeKind) × (k : ℕ) × (edge e k q r ∈ edges t) × T (letterless e)

abbrev pub Takes : Tree → ℕ → ℕ → ℕ → Type 0
Takes t b q r = (e : EdgeKind) × (k : ℕ) × (edge e k q r ∈ edges t) × T (by_letter b e || by_loop b e)

-- "The live states before any byte are all that 0 reaches by edges without a letter."
abbrev pub Before : Tree → ℕ → Type 0
Before t = Reached (Free t) (λ q. q ≡ 0)

-- "After a byte they are all that the moved states and state 0 reach by such edges", from any set D of states
abbrev pub After : Tree → ℕ → (ℕ → Type 0) → ℕ → Type 0
After t b D = Reached (Free t) (λ r. (r ≡ 0) ⊎ ((q : ℕ) × D q × Takes t b q r))

abbrev pub LiveFrom : Tree → (ℕ → Type 0) → List ℕ → ℕ → Type 0
LiveFrom t D [] = D
LiveFrom t D (b ∷ text) = LiveFrom t (After t b D) text

-- the live states after the bytes of a text
abbrev pub Live : Tree → List ℕ → ℕ → Type 0
Live t text = LiveFrom t (Before t) text
