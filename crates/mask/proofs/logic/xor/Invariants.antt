-- `xor`: each word is made by `bit_xor`.
use lib.Bits.{bit_xor}
use Rattle.mask.proofs.logic.xor.Given as goal

abbrev pub ghost-each : goal.ghost-each
ghost-each a = bit_xor
