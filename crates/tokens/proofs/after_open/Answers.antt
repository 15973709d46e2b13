-- `after_open`: the new frame is on top.
use native.Mathlib.Omega.{arith}
use Rattle.tokens.proofs.Scans.{opened_scan}
use Rattle.tokens.proofs.after_open.Goals as goal

pub returns : goal.returns
returns c =
    let o = c.opened_frame in
    record { inside = omega (arith, c.requires.1); steps = λ fs l I. opened_scan c.args.scan fs o.result (omega (arith, c.requires.1)) o.ensures }
