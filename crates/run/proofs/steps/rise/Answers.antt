-- `rise`: what is left of the way up from depth k gives what the whole way gives.
use mathlib.Core.Path.{ap, ◌∙◌}
use native.Mathlib.Omega.{arith}
use lib.ListN.{take}
use Prim.Native.Nat.{◌-◌}
use Rattle.model.specs.Models.Run.{gather_by, rise_words}
use Rattle.run.specs.Work.{pass_masks}
use Rattle.run.proofs.Laws.Passes.{rise_one}
use Rattle.run.proofs.steps.rise.Goals as goal

pub loop-k-preserved : goal.loop-k-preserved
loop-k-preserved c =
    let l = c.loop-k in
    let a = c.args in
    let M = pass_masks a.n a.work.now.table in (
      omega arith,
      ap (rise_words M (l.k - 1)) (c.gather_at-r.ensures ∙ ap (gather_by M (l.k - 1)) c.propagate_at-along.ensures) ∙ rise_one M l.k c.loop-k-test.true (take a.n l.r.words) ∙ l.invariant.1,
    )
