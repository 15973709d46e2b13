-- The report has room: no report is longer than 22,397 bytes.
use native.Mathlib.Omega.{arith}
use lib.ListN.{length-take}
use Rattle.desk_report.proofs.Laws.Short.{desk_short}
use Rattle.examples.proofs.show.Goals as goal

pub slice_bounds-text-end : goal.slice_bounds-text-end
slice_bounds-text-end g c =
    let r = c.report-length in
    omega (arith, r.ensures.long, desk_short r.ensures.says, r.auto.text)

pub slice_bounds-write_all-end-4 : goal.slice_bounds-write_all-end-4
slice_bounds-write_all-end-4 g c =
    let r = c.report-length in
    omega (arith, length-take r.result r.new.text, r.ensures.long, desk_short r.ensures.says, r.auto.text)
