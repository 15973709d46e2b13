-- `after_close`: the frame is stored above what is left of the stack.
use native.Mathlib.Omega.{arith}
use Rattle.tokens.specs.Tokens.{mark_of}
use Rattle.tokens.proofs.Scans.{closed_scan}
use Rattle.tokens.proofs.after_close.Goals as goal

pub returns : goal.returns
returns c =
    let a = c.args in
    let o = c.can_omit in
    record {
      inside = omega (arith, c.requires.1.1);
      steps = λ fs l I. closed_scan a.scan fs a.frame I c.requires.1.0 a.frame (mark_of a.mark) o.result o.ensures;
    }
