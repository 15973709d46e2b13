-- Each turn is a step of the scan, which the token allows since the tape is a tree's, and stores the token's kind with its union's own mark.
use mathlib.Core.Path.{refl}
use mathlib.Core.List.{List}
use native.Mathlib.Omega.{arith}
use borrow.Author.Rules.{rules}
use lib.ListN.{replicate}
use Rattle.tokens.specs.Scans.{with_frames}
use Rattle.tokens.specs.declared.Frame.{Frame}
use Rattle.tokens_masks.proofs.Along.{along_depth}
use Rattle.writing.proofs.Laws.Own.{owning_begin, owning_end, owning_ready, owning_step}
use Rattle.writing.proofs.own.own_marks.Goals as goal

pub loop-i-init : goal.loop-i-init
loop-i-init c =
    let fs : List Frame = replicate 9 c.no_frame-frames.result in
    owning_begin c.requires fs (search rules) refl refl (c.begin_scan-scan.ensures fs)

pub offset_bounds-frames-innermost : goal.offset_bounds-frames-innermost
offset_bounds-frames-innermost c =
    let l = c.loop-i in
    omega (arith, along_depth _ (with_frames l.scan l.frames) _ l.invariant.along, c.innermost.ensures)

pub bounds-frames-innermost : goal.bounds-frames-innermost
bounds-frames-innermost c =
    let l = c.loop-i in
    omega (arith, along_depth _ (with_frames l.scan l.frames) _ l.invariant.along, c.innermost.ensures)

-- the token that was read may be passed
pub step_over-next-requires : goal.step_over-next-requires
step_over-next-requires c =
    let l = c.loop-i in
    owning_ready c.requires l.invariant c.loop-i-test.true c.read_kind.ensures c.innermost.ensures

pub loop-i-preserved : goal.loop-i-preserved
loop-i-preserved c =
    let l = c.loop-i in
    owning_step c.requires l.invariant c.loop-i-test.true c.read_kind.ensures c.innermost.ensures _ c.step_over-next.ensures c.own_kind.ensures

pub returns : goal.returns
returns c = owning_end c.requires c.loop-i.invariant c.loop-i-test.false
