-- `fall`: what is left of the way down gives what the whole way gives.
use Rattle.std.proofs.Common.{ap, ◌∙◌, arith, take, ◌+◌, ◌-◌}
use Rattle.model.specs.Models.Run.{fall_words, propagate_by}
use Rattle.run.specs.Work.{pass_masks}
use Rattle.run.proofs.Laws.Passes.{fall_one}
use Rattle.run.proofs.steps.fall.Goals as goal

pub loop-k-preserved : goal.loop-k-preserved
loop-k-preserved c =
    let l = c.loop-k in
    let a = c.args in
    let M = pass_masks a.n a.work.now.table in (
      omega arith,
      ap (fall_words M (a.work.now.depth - (l.k + 1)) (l.k + 1)) (c.propagate_at-r.ensures ∙ ap (propagate_by M (l.k + 1)) c.scatter_at-started.ensures)
          ∙ fall_one M a.work.now.depth l.k c.loop-k-test.true (take a.n l.r.words) ∙ l.invariant.1,
    )
