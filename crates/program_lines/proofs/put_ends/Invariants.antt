-- Each turn puts one end's line more, of at most 21 bytes.
use Prim.Native.Nat.{◌+◌, ◌*◌, ◌≤◌}
use lib.ListN.{take}
use Rattle.program_lines.specs.Lines.{end_lines}
use Rattle.program_lines.specs.Work.{PutAt}
use Rattle.program_lines.proofs.put_ends.Given as goal

abbrev pub invariant-loop-end : goal.invariant-loop-end
invariant-loop-end l = PutAt (end_lines (take l.end-index l.end-items)) l.initial.text l.at l.next l.text × (l.next ≤ l.at + 21 * l.end-index)
