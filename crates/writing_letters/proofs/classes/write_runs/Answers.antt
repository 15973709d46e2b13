-- `write_runs`: the runs written and those left are the whole text, and at the end none are left.
use Rattle.model.specs.Models.Words.{value}
use Rattle.model.specs.Writing.{outside}
use Rattle.writing_letters.proofs.Laws.Runs.{left_all, left_next, left_none}
use Rattle.writing_letters.proofs.classes.write_runs.Goals as goal

pub loop-lo-init : goal.loop-lo-init
loop-lo-init c = let a = c.args in left_all (value a.class) a.at a.out.now c.next_in-lo.result c.next_in-lo.ensures

pub loop-lo-preserved : goal.loop-lo-preserved
loop-lo-preserved c =
    let l = c.loop-lo in
    let a = c.args in
    let w = c.write_run-p in
    left_next (value a.class) a.at a.out.now (outside 256 (value a.class) 0) l.lo l.p l.out l.invariant c.next_out-end.result
    c.next_in-lo-in-loop-lo.result w.result w.new.out c.loop-lo-test.true c.next_out-end.ensures c.next_in-lo-in-loop-lo.ensures (w.ensures.place, w.ensures.written)

pub returns : goal.returns
returns c =
    let l = c.loop-lo in
    let a = c.args in
    let w = left_none (value a.class) a.at a.out.now (outside 256 (value a.class) 0) l.lo l.p l.out l.invariant c.loop-lo-test.false in
    record { place = w.0; written = w.1 }
