-- `after_bar`: the frame on top is the next alternative's, those below it stay.
use native.Mathlib.Omega.{arith}
use Rattle.tokens.proofs.Scans.{barred_scan}
use Rattle.tokens.proofs.after_bar.Goals as goal

pub returns : goal.returns
returns c =
    let a = c.args in
    let n = c.next_frame in
    record {
      inside = omega (arith, c.requires.1.1);
      steps = λ fs l I. barred_scan a.scan fs a.frame I c.requires.1.0 n.result (omega (arith, c.requires.1.1)) n.ensures;
    }
