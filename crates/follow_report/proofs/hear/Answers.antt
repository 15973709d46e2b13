-- Step's answer is a refusal, whose line is the text, or done, and the lines of what it found are.
use Rattle.std.proofs.Common.{◌≡◌, length, drop, refl, arith}
use Rattle.follow_report.proofs.Laws.Stages.{step_goes, step_refused}
use Rattle.follow_report.proofs.hear.Goals as goal

pub returns-in-Err : goal.returns-in-Err
returns-in-Err c =
    let t = c.step in
    let a = c.args in
    step_refused a.image.now c.mask_words-width.ensures a.watching a.stretch.now t.result t.new.mask t.new.place t.new.ends t.ensures c.in-Err.is c.stop.ensures

pub returns-in-Ok : goal.returns-in-Ok
returns-in-Ok c =
    let t = c.step in
    let a = c.args in
    let eight : length a.watching.mask ≡ 8 = omega arith in
    step_goes a.image.now c.mask_words-width.ensures a.watching a.stretch.now t.result t.new.mask t.new.place t.new.ends t.ensures
    (drop c.mask_words-width.result a.watching.mask) c.in-Ok.is c.go_on.ensures
    refl eight t.auto.mask
