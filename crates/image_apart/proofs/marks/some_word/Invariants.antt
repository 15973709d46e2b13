-- `marks::some_word`: after k turns the word has the bits of the first k words, and each turn adds one more.
use mathlib.Core.Path.{◌≡◌}
use Rattle.image_apart.specs.Work.{some_word}
use Rattle.image_apart.proofs.marks.some_word.Given as goal

abbrev pub invariant-loop-k : goal.invariant-loop-k
invariant-loop-k l = l.some ≡ some_word l.words l.at l.stride l.k
