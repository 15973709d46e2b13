-- `is_live`: the bit of a row stands in one of its words, where a shift brings it down.
use mathlib.Core.Path.{sym, ◌∙◌}
use Prim.Native.Nat.{◌/◌, ◌%◌}
use lib.ListN.{get_or}
use Rattle.mask.proofs.Laws.Bits.{fit_row, read_bit}
use Rattle.model.proofs.Words.RowBits.{row_bit}
use Rattle.run.proofs.stretch.is_live.Goals as goal

pub returns : goal.returns
returns c =
    let a = c.args in
    let live = a.live.now in
    read_bit (get_or live (a.state / 64) 0) (a.state % 64) ∙ sym (row_bit live a.state (fit_row live c.type_inv.live))
