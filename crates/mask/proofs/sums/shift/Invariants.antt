-- `shift`: each word is moved up by one, and hands on its top bit.
use Rattle.mask.specs.Rows.{shift_word, top_bit}
use Rattle.mask.proofs.sums.shift.Given as goal

abbrev pub ghost-ripple : goal.ghost-ripple
ghost-ripple a = record { word = shift_word; out = top_bit }
