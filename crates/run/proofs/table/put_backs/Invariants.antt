-- `put_backs`: each turn puts one row more (`backs_more`), and the section is whole.
use Prim.Native.Nat.{◌*◌, ◌≤◌}
use Rattle.run.specs.Work.{PutBacks}
use Rattle.run.proofs.table.put_backs.Given as goal

abbrev pub invariant-loop-i : goal.invariant-loop-i
invariant-loop-i l = (l.i ≤ 2 * l.depth) × (l.depth ≤ 8) × PutBacks l.i l.image.words.now l.width l.depth l.initial.table l.table
