-- `after_letter`: the frame is stored above the stack.
use native.Mathlib.Omega.{arith}
use Rattle.tokens.proofs.Scans.{letter_scan}
use Rattle.tokens.specs.Tokens.{repeat_of}
use Rattle.tokens.proofs.after_letter.Goals as goal

pub returns : goal.returns
returns c =
    let a = c.args in
    let s = c.can_skip in
    record { inside = omega (arith, c.requires.1); steps = λ fs l I. letter_scan a.scan fs a.frame (repeat_of a.repeat) s.result s.ensures }
