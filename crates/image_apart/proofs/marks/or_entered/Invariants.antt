-- `or_entered`: after j turns the row has the first j words of those that an edge enters, and each turn adds one more.
use mathlib.Core.Path.{◌≡◌}
use lib.ListN.{take}
use Rattle.image_apart.specs.Work.{entered_words, or_first}
use Rattle.image_apart.proofs.marks.or_entered.Given as goal

abbrev pub invariant-loop-j : goal.invariant-loop-j
invariant-loop-j l = l.row ≡ or_first l.initial.row (take l.j (entered_words l.image.words.now l.at l.image.sections.width))
