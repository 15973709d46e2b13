-- `letter_masks::put_state`: after b turns the rows of the first b bits have the state's bit where the class has them.
use mathlib.Core.Path.{◌≡◌}
use Rattle.image.specs.Work.{with_state}
use Rattle.image.proofs.letter_masks.put_state.Given as goal

abbrev pub invariant-loop-b : goal.invariant-loop-b
invariant-loop-b l = l.words ≡ with_state l.b l.width l.class l.state l.at l.initial.words
