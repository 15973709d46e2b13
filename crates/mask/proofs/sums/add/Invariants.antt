-- `add`: each word is `sum_word`, and hands on `carry_out`.
use Rattle.model.specs.Models.Words.{carry_out}
use Rattle.mask.proofs.Laws.Carries.{sum_word}
use Rattle.mask.proofs.sums.add.Given as goal

abbrev pub ghost-ripple : goal.ghost-ripple
ghost-ripple a = record { word = sum_word; out = carry_out }
