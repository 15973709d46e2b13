-- `scan_tape`: each turn is a step of the scan, which marks what the token marks; at the end the scan tells what the tape is.
use Rattle.std.proofs.Common.{rules}
use mathlib.Core.Bool.{Bool, cond}
use mathlib.Core.Path.{refl, sym, ap, subst}
use native.Mathlib.Omega.{arith}
use lib.Dec.{T}
use lib.ListN.{replicate}
use Rattle.std.specs.Prelude.{None, Some}
use Rattle.model.specs.Models.LayOut.{begin, reach}
use Rattle.tokens_masks.proofs.Along.{too_long}
use Rattle.tokens_masks.proofs.Scanning.{scanning_begin, scanning_depth, scanning_misfit, scanning_other, scanning_ready, scanning_step, scanning_tree}
use Rattle.tokens_masks.specs.Tapes.{tokens_of}
use Rattle.tokens_masks.proofs.scan_tape.Goals as goal

pub returns-then-tape-gt511 : goal.returns-then-tape-gt511
returns-then-tape-gt511 c =
    let t = c.args.tape in
    let no = too_long t c.if-tape-gt511.true in record {
      told = sym (ap (λ (b : Bool). cond b (Some (reach (tokens_of t) begin)) None) no);
      masks = λ z w. absurd (subst T no z);
    }

pub loop-kind-init : goal.loop-kind-init
loop-kind-init c =
    scanning_begin _ (search rules) c.if-tape-gt511.false (search rules) c.requires refl (c.begin_scan-scan.ensures (replicate 9 c.no_frame-frames.result))

pub offset_bounds-frames-innermost : goal.offset_bounds-frames-innermost
offset_bounds-frames-innermost c = omega (arith, scanning_depth c.loop-kind.invariant, c.innermost.ensures)

pub bounds-frames-innermost : goal.bounds-frames-innermost
bounds-frames-innermost c = omega (arith, scanning_depth c.loop-kind.invariant, c.innermost.ensures)

pub returns-then-not-fits : goal.returns-then-not-fits
returns-then-not-fits c =
    let said = scanning_misfit c.loop-kind.invariant c.loop-kind-test.true c.read_kind-token.ensures c.innermost.ensures c.fits.ensures c.if-not-fits.true in
    record { told = said.0; masks = said.1 }

pub mark_token-requires : goal.mark_token-requires
mark_token-requires c =
    scanning_ready c.loop-kind.invariant c.loop-kind-test.true c.read_kind-token.ensures c.innermost.ensures c.fits.ensures c.if-not-fits.false

pub deeper-deepest-requires : goal.deeper-deepest-requires
deeper-deepest-requires c = omega (arith, scanning_depth c.loop-kind.invariant)

pub step_over-next-requires : goal.step_over-next-requires
step_over-next-requires c =
    scanning_ready c.loop-kind.invariant c.loop-kind-test.true c.read_kind-token.ensures c.innermost.ensures c.fits.ensures c.if-not-fits.false

pub loop-kind-preserved : goal.loop-kind-preserved
loop-kind-preserved c =
    scanning_step c.loop-kind.invariant c.loop-kind-test.true c.read_kind-token.ensures c.innermost.ensures c.fits.ensures c.if-not-fits.false
    c.step_over-next.ensures c.deeper-deepest.ensures c.mark_token.ensures

pub returns-then-is_ended : goal.returns-then-is_ended
returns-then-is_ended c =
    let said = scanning_tree c.loop-kind.invariant c.loop-kind-test.false c.is_ended.ensures c.if-is_ended.true in
    record { told = said.0; masks = said.1 }

pub returns-else-is_ended : goal.returns-else-is_ended
returns-else-is_ended c =
    let said = scanning_other c.loop-kind.invariant c.loop-kind-test.false c.is_ended.ensures c.if-is_ended.false in
    record { told = said.0; masks = said.1 }
