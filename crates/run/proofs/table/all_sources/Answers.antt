-- `all_sources`: the row has those of the depths passed (`sources_more`).
use Prim.Native.Nat.{◌*◌}
use native.Mathlib.Omega.{arith}
use borrow.Author.Rules.{rules}
use Rattle.run.proofs.Laws.Backs.{sources_more}
use Rattle.run.proofs.table.all_sources.Goals as goal

pub loop-k-preserved : goal.loop-k-preserved
loop-k-preserved c =
    let k = c.loop-k.k in
    let h = c.loop-k-test.true in (
      omega arith,
      sources_more c.args.work.now.table k c.loop-k.r.words c.or-r.result.words c.loop-k.invariant.1 c.loop-k.invariant.2
          (c.requires (2 * k) (omega arith)) (λ i. search rules) c.or-r.ensures,
      search rules,
    )
