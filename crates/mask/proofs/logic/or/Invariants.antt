-- `or`: each word is made by `bit_or`.
use lib.Bits.{bit_or}
use Rattle.mask.proofs.logic.or.Given as goal

abbrev pub ghost-each : goal.ghost-each
ghost-each a = bit_or
