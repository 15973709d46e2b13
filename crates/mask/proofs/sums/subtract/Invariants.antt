-- `subtract`: each word is `difference_word`, and hands on `borrow_out`.
use Rattle.model.specs.Models.Words.{borrow_out}
use Rattle.mask.proofs.Laws.Carries.{difference_word}
use Rattle.mask.proofs.sums.subtract.Given as goal

abbrev pub ghost-ripple : goal.ghost-ripple
ghost-ripple a = record { word = difference_word; out = borrow_out }
