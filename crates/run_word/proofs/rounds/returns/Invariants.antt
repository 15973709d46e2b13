-- `returns`: what is left of the depths below k adds what all of them do.
use Rattle.std.proofs.Common.{◌≡◌, ℕ, Bool, List, [], ◌∷◌}
use Rattle.model.specs.Models.Run.{returns_words}
use Rattle.run_word.specs.One.{table_masks}
use Rattle.run_word.proofs.rounds.returns.Given as goal

abbrev pub invariant-loop-k : goal.invariant-loop-k
invariant-loop-k l =
    (ws : List ℕ) (any : Bool) (b s t : ℕ) (table : List ℕ) → let M = table_masks ws any b s t table l.backs in
    returns_words M l.k (l.first ∷ []) (l.r ∷ []) ≡ returns_words M l.depth (l.first ∷ []) (l.first ∷ [])
