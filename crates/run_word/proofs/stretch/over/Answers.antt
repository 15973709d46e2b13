-- `over`: at each turn what was noted and what is still to come is the whole list, and the word runs on to the last one (`Since`).
use Rattle.std.proofs.Common.{[], ◌∷◌, get_or, arith}
use Rattle.run_word.specs.One.{table_masks}
use Rattle.run_word.proofs.Laws.Stretch.{at_end, at_next, since_now, stepped}
use Rattle.run_word.proofs.stretch.over.Goals as goal

pub loop-p-init : goal.loop-p-init
loop-p-init g c = λ any block below target table backs d C. since_now _ _ _ _ _ _ _ _ 0 (omega arith) (omega (arith, c.requires.begins.limits.few))

pub loop-p-preserved : goal.loop-p-preserved
loop-p-preserved g c = λ any block below target table backs d C.
    let M = table_masks c.args.image.now any block below target table backs in
    at_next _ _ _ _ _ c.requires.begins.limits.small (c.reach-live.result ∷ []) (c.loop-p.invariant any block below target table backs d C) (omega arith)
    (stepped M d C (get_or c.args.stretch.now c.loop-p.p 0) (c.loop-p.live ∷ []) c.moved.type_inv c.reach-live.ensures c.moved.ensures)
    c.is_live.result c.is_live.ensures c.note-total.ensures.counted c.note-total.ensures.written

pub returns : goal.returns
returns g c = λ any block below target table backs d C.
    let l = c.loop-p in at_end _ _ _ _ _ 1 _ _ _ (l.live ∷ []) (l.invariant any block below target table backs d C) (omega arith)
