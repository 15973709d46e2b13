-- `scan_tape`: each turn is a step of the scan, which marks what the token marks; at the end the scan tells what the tape is.
use Rattle.tokens_masks.proofs.Scanning.{Scanning}
use Rattle.tokens_masks.proofs.scan_tape.Given as goal

abbrev pub invariant-loop-kind : goal.invariant-loop-kind
invariant-loop-kind l = Scanning l.fn.tape l.masks l.frames l.scan l.deepest l.kind-index
