-- Each answer is a refusal, whose line is the text, or goes on to the next stage; after the last the three parts are the text.
use native.Mathlib.Omega.{arith}
use lib.ListN.{length-take}
use Rattle.std.proofs.lemmas.Result.{err_from_is_err_and}
use Rattle.desk_report.proofs.Laws.Stages.{all_found, build_refused, image_first, match_refused, read_back_refused, writing_few, writing_first}
use Rattle.desk_report.proofs.try_report.Goals as goal

pub returns-in_err-built : goal.returns-in_err-built
returns-in_err-built c =
    let a = c.args in
    let e = err_from_is_err_and c.from_residual.result c.from_residual.ensures.1 in build_refused a.journal.now a.text.now c.in_err-built.ensures e.1 e.2

pub slice_bounds-words-end : goal.slice_bounds-words-end
slice_bounds-words-end c = (image_first c.in_ok-built.ensures c.build.auto.image).fits

pub slice_bounds-image-end : goal.slice_bounds-image-end
slice_bounds-image-end c = (image_first c.in_ok-built.ensures c.build.auto.image).counted

pub returns-in_err-written : goal.returns-in_err-written
returns-in_err-written c =
    let a = c.args in
    let r = c.from_residual-in_err-written in
    let e = err_from_is_err_and r.result r.ensures.1 in read_back_refused a.journal.now a.text.now c.in_ok-built.ensures c.in_err-written.ensures e.1 e.2

pub slice_bounds-bytes-end : goal.slice_bounds-bytes-end
slice_bounds-bytes-end c = (writing_first c.in_ok-written.ensures c.read_back.auto.bytes).fits

pub slice_bounds-writing-end : goal.slice_bounds-writing-end
slice_bounds-writing-end c = (writing_first c.in_ok-written.ensures c.read_back.auto.bytes).counted

pub returns-in_err-total : goal.returns-in_err-total
returns-in_err-total c =
    let a = c.args in
    let r = c.from_residual-in_err-total in
    let e = err_from_is_err_and r.result r.ensures.1 in
    match_refused a.journal.now a.text.now c.in_ok-built.ensures c.in_ok-written.ensures c.in_err-total.ensures e.1 e.2

pub put_found-requires : goal.put_found-requires
put_found-requires c =
    (omega (arith, writing_few c.in_ok-written.ensures, length-take c.in_ok-written.written c.read_back.new.bytes), omega (arith, c.match_ends.auto.ends))

pub returns : goal.returns
returns c = let a = c.args in all_found a.journal.now a.text.now c.in_ok-built.ensures c.in_ok-written.ensures c.in_ok-total.ensures c.put_found.ensures
