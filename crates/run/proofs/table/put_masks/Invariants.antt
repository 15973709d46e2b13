-- `put_masks`: the series put so far are there, and each turn puts one more (`series_entered`); then the back edges' masks (`tabled`).
use mathlib.Core.Path.{◌≡◌}
use mathlib.Core.List.{[]}
use Prim.Native.Nat.{ℕ, ◌+◌, ◌*◌, ◌<◌}
use lib.ListN.{get_or, length}
use Rattle.run.specs.Work.{series_row}
use Rattle.run.proofs.table.put_masks.Given as goal

abbrev pub invariant-loop-j : goal.invariant-loop-j
invariant-loop-j l = (length l.table ≡ 97) × ((k i : ℕ) → k < 9 → i < l.j → get_or l.table (9 * k + i) [] ≡ series_row l.image.words.now l.image.sections.width l.image.sections.depth i k)
