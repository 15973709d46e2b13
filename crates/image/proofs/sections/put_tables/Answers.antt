-- `sections::put_tables`: the masks of each depth are written where those of the depth before it end. The count is searched for, however it is written.
use native.Mathlib.Omega.{arith}
use borrow.Author.Rules.{rules}
use Rattle.image.proofs.Laws.Lengths.{masks_long}
use Rattle.image.proofs.Laws.Parts.{parts_all, parts_more, parts_none}
use Rattle.image.proofs.sections.put_tables.Goals as goal

pub loop-k-init : goal.loop-k-init
loop-k-init g c =
    let a = c.args in
    let r = c.requires in
    parts_none (masks_long g.row.N a.masks.now a.first r.0 r.1 r.4 (search rules))

pub loop-k-preserved : goal.loop-k-preserved
loop-k-preserved g c = parts_more c.loop-k.invariant c.loop-k-test.true c.put_depth.ensures

pub returns : goal.returns
returns g c =
    let a = c.args in
    parts_all a.words.now a.at _ c.loop-k.invariant c.requires.2 (search rules) (omega arith)
