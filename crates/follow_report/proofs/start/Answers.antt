-- Begin's answer is a refusal, whose line is the text, or done, and the lines of what it found are.
use Rattle.std.proofs.Common.{drop, replicate, refl, arith}
use Rattle.follow_report.proofs.Laws.Stages.{begin_goes, begin_refused, wide}
use Rattle.follow_report.proofs.start.Goals as goal

pub slice_bounds-begin-end : goal.slice_bounds-begin-end
slice_bounds-begin-end c = (wide c.args.image.now (replicate 8 0) c.mask_words-width.ensures refl).counted

pub returns-in-Err : goal.returns-in-Err
returns-in-Err c =
    let b = c.begin in
    begin_refused c.args.image.now c.mask_words-width.ensures b.result b.new.mask b.new.place b.new.ends b.ensures c.in-Err.is c.stop.ensures

pub returns-in-Ok : goal.returns-in-Ok
returns-in-Ok c =
    let b = c.begin in
    begin_goes c.args.image.now c.mask_words-width.ensures b.result b.new.mask b.new.place b.new.ends b.ensures
    (drop c.mask_words-width.result (replicate 8 0)) c.in-Ok.is c.go_on.ensures (omega arith) b.auto.mask
