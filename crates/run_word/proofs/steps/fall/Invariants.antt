-- `fall`: what is left of the way down gives what the whole way gives.
use Rattle.std.proofs.Common.{◌≡◌, ℕ, ◌-◌, List, [], ◌∷◌}
use Rattle.model.specs.Models.Run.{fall_words}
use Rattle.run_word.specs.One.{table_masks}
use Rattle.run_word.proofs.steps.fall.Given as goal

abbrev pub invariant-loop-k : goal.invariant-loop-k
invariant-loop-k l =
    (ws backs : List ℕ) (b s t : ℕ) → let M = table_masks ws l.any b s t l.table backs in fall_words M (l.depth - l.k) l.k (l.r ∷ []) ≡ fall_words M l.depth 0 (l.live ∷ [])
