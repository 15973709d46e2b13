-- The bytes of a text: each is below 256.
use Rattle.std.proofs.Common.{ℕ, suc, ◌<◌, List, [], ◌∷◌, get_or}
use Rattle.model.proofs.Words.Run.{Bytes}

pub all_bytes : (text : List ℕ) → ((i : ℕ) → get_or text i 0 < 256) → Bytes text
all_bytes [] h = tt
all_bytes (b ∷ text) h = (h 0, all_bytes text (λ i. h (suc i)))
