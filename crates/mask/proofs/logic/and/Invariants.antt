-- `and`: each word is made by `bit_and`.
use lib.Bits.{bit_and}
use Rattle.mask.proofs.logic.and.Given as goal

abbrev pub ghost-each : goal.ghost-each
ghost-each a = bit_and
