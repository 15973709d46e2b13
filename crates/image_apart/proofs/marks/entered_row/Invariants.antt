-- `entered_row`: after k turns the row is that of the first k depths, and each turn adds one more.
use mathlib.Core.Path.{◌≡◌}
use Rattle.image_apart.specs.Work.{entered_row}
use Rattle.image_apart.proofs.marks.entered_row.Given as goal

abbrev pub invariant-loop-k : goal.invariant-loop-k
invariant-loop-k l = let p = l.image.sections in l.row ≡ entered_row l.image.words.now p.propagate p.width l.k
