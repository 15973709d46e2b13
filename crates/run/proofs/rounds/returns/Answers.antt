-- `returns`: what is left of the depths below k gives what all of them give.
use mathlib.Core.Path.{ap, ◌∙◌}
use native.Mathlib.Omega.{arith}
use lib.ListN.{take}
use Prim.Native.Nat.{◌-◌}
use Rattle.model.specs.Models.Run.{returns_words}
use Rattle.run.specs.Work.{pass_masks}
use Rattle.run.proofs.Laws.Rounds.{returns_one}
use Rattle.run.proofs.rounds.returns.Goals as goal

pub loop-k-preserved : goal.loop-k-preserved
loop-k-preserved c =
    let l = c.loop-k in
    let a = c.args in
    let M = pass_masks a.n a.work.now.table in
    let f = take a.n a.first.words in
    (omega arith, ap (returns_words M (l.k - 1) f) c.return_at-r.ensures ∙ returns_one M l.k c.loop-k-test.true f (take a.n l.r.words) ∙ l.invariant.1)
