-- Each turn puts one line more, of at most 33 bytes.
use Rattle.std.proofs.Common.{◌+◌, ◌*◌, ◌≤◌, length}
use Rattle.explain.proofs.record.put_steps.Given as goal

abbrev pub invariant-loop-i : goal.invariant-loop-i
invariant-loop-i l = l.next ≤ l.at + 33 * length l.yielded
