-- `next_in`: every byte passed is not in the class, and the lowest bit of what is left of a word is the next byte in it.
use Prim.Native.Nat.{◌+◌, ◌*◌, ◌/◌}
use native.Mathlib.Omega.{arith}
use borrow.Author.Rules.{rules}
use Rattle.model.specs.Models.Words.{Fit, value}
use Rattle.mask.proofs.Laws.Bits.{fit_row}
use Rattle.writing_letters.proofs.Laws.Runs.{all_then}
use Rattle.writing_letters.proofs.Laws.Words.{rest_first, rest_none}
use Rattle.writing_letters.proofs.classes.next_in.Goals as goal

pub returns-then-rest-ne0 : goal.returns-then-rest-ne0
returns-then-rest-ne0 c =
    let fit : Fit c.args.class = fit_row c.args.class (λ k. search rules) in
    let l = c.loop-i in
    rest_first c.args.class l.i fit c.args.b l.invariant.0 c.loop-i-test.true l.invariant.1 c.if-rest-ne0.true

pub loop-i-preserved : goal.loop-i-preserved
loop-i-preserved c =
    let fit : Fit c.args.class = fit_row c.args.class (λ k. search rules) in
    let l = c.loop-i in (
      omega arith,
      all_then (value c.args.class) c.args.b l.i (64 * (l.i / 64 + 1)) l.invariant.1 (rest_none c.args.class l.i fit c.if-rest-ne0.false),
    )
