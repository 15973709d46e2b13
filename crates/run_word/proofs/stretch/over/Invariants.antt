-- `over`: at each turn what was noted and what is still to come is the whole list, and the word runs on to the last one (`Since`).
use Rattle.std.proofs.Common.{ℕ, Bool, List, [], ◌∷◌}
use Rattle.run_word.specs.One.{table_masks}
use Rattle.run_word.specs.Stretch.{Closes}
use Rattle.run_word.proofs.Laws.Stretch.{Since}
use Rattle.run_word.proofs.stretch.over.Given as goal

abbrev pub invariant-loop-p : goal.invariant-loop-p
invariant-loop-p g l =
    (any : Bool) (block below target : ℕ) (table backs : List ℕ) (d : ℕ) → let M = table_masks l.image any block below target table backs in
    Closes M d (goal.F-post g l.reach)
    → Since M d l.last l.from.place l.stretch l.initial.ends (l.initial.live ∷ []) l.initial.total 0 l.ends (l.live ∷ []) l.total l.p
