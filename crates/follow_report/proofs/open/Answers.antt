-- Build's answer is a refusal, whose line is the text, or done, and a watch begins with the image.
use Rattle.follow_report.proofs.Laws.Stages.{build_refused, image_first, image_goes_on}
use Rattle.follow_report.proofs.open.Goals as goal

pub slice_bounds-start-end : goal.slice_bounds-start-end
slice_bounds-start-end c =
    let b = c.build in
    (image_first b.result b.new.image b.ensures c.in-Ok.is b.auto.image).fits

pub slice_bounds-start-end-in-Ok : goal.slice_bounds-start-end-in-Ok
slice_bounds-start-end-in-Ok c =
    let b = c.build in
    (image_first b.result b.new.image b.ensures c.in-Ok.is b.auto.image).counted

pub returns-in-Err : goal.returns-in-Err
returns-in-Err c =
    let b = c.build in
    build_refused b.result b.new.image b.ensures c.in-Err.is c.stop.ensures

pub returns-in-Ok : goal.returns-in-Ok
returns-in-Ok c =
    let b = c.build in
    image_goes_on b.result b.new.image b.ensures c.in-Ok.is c.start.result c.start.ensures
