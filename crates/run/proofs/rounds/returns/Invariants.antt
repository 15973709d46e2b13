-- `returns`: what is left of the depths below k gives what all of them give.
use mathlib.Core.Path.{◌≡◌}
use lib.ListN.{take}
use Prim.Native.Nat.{◌≤◌}
use Rattle.model.specs.Models.Run.{returns_words}
use Rattle.run.specs.Work.{pass_masks}
use Rattle.run.proofs.rounds.returns.Given as goal

abbrev pub invariant-loop-k : goal.invariant-loop-k
invariant-loop-k l =
    (l.k ≤ l.work.depth) × (returns_words (pass_masks l.n l.work.table) l.k (take l.n l.first.words) (take l.n l.r.words) ≡ returns_words (pass_masks l.n l.work.table) l.work.depth (take l.n l.first.words) (take l.n l.first.words))
