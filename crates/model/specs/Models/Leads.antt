-- FROM WHERE BYTES LEAD TO THE ACCEPTING STATE: what the proposer computes, going back from an end. Nothing here is believed.
use Rattle.std.specs.Prelude.{◌≡◌, List, [], ◌∷◌, ℕ}
use Rattle.model.specs.Edges.{accepting}
use Rattle.model.specs.Live.{Takes}
use Rattle.model.specs.Tree.{Tree}
use Rattle.model.specs.Spelling.{Reaches}

-- the states from which the bytes lead there
abbrev pub Leads : Tree → List ℕ → ℕ → Type 0
Leads t [] q = Reaches t q (accepting t)
Leads t (b ∷ bs) q = (p : ℕ) × Reaches t q p × ((r : ℕ) × Takes t b p r × Leads t bs r)

-- the states that the bytes enter one after another, from q to r
abbrev pub Chain : Tree → ℕ → (bytes states : List ℕ) → ℕ → Type 0
Chain t q [] [] r = q ≡ r
Chain t q [] (x ∷ xs) r = ⊥
Chain t q (b ∷ bs) [] r = ⊥
Chain t q (b ∷ bs) (x ∷ xs) r = ((p : ℕ) × Reaches t q p × Takes t b p x) × Chain t x bs xs r
