-- `sections::put_row`: a part of as many words as the row's first is made those.
use Prim.Native.Nat.{◌+◌, ◌-◌}
use native.Mathlib.Omega.{arith}
use lib.ListN.{take}
use lib.Seq.{length-take-le}
use Rattle.image.proofs.Laws.Stores.{part_written}
use Rattle.image.proofs.sections.put_row.Goals as goal

pub returns : goal.returns
returns c =
    let a = c.args in
    let long = length-take-le a.width a.row (omega arith) in
    part_written a.words.now a.at (a.at + a.width - a.at) (take a.width a.row) c.copy_from_slice.new.self (omega arith) (omega arith)
    (c.copy_from_slice.ensures.after)
