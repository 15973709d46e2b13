-- Each turn moves on to the next state's column and writes a token where the tokens before it end, and after a union's open the inner range, which is
-- shorter. Each token takes at most 4096 bytes, so that no place is past 4096 times the tokens before it.
use Prim.Native.Nat.{◌-◌, ◌/◌, ◌≤◌}
use Rattle.image_classes.specs.Classes.{ColumnOf}
use Rattle.writing.proofs.Laws.Ranges.{tokens_of, Wrote}
use Rattle.writing.proofs.ranges.+write_range.Given as goal

-- how many tokens the range has
abbrev pub decreases-write_range : goal.decreases-write_range
decreases-write_range l = l.to - l.from

abbrev pub invariant-loop-i : goal.invariant-loop-i
invariant-loop-i l = record {
  inside : l.i ≤ l.to;
  wrote : Wrote (tokens_of l.image.words.now l.image.sections.width l.kinds) l.fn.out l.at l.from l.i l.out l.p;
  column : ColumnOf l.image.words.now l.image.sections.width (l.i / 64) l.classes;
}

abbrev pub decreases-loop-i : goal.decreases-loop-i
decreases-loop-i l = l.to - l.i
