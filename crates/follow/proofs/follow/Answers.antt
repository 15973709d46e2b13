-- Each text has room; a stretch has at least one byte.
use mathlib.Core.Path.{ap}
use Prim.Native.Nat.{◌<◌}
use lib.ListN.{length}
use native.Mathlib.Omega.{arith}
use Rattle.program_lines.proofs.Laws.Room.{first}
use Rattle.follow_report.proofs.Laws.Onward.{heard_place}
use Rattle.follow_report.proofs.Laws.Short.{hears_short, total_short}
use Rattle.follow.proofs.follow.Goals as goal

pub slice_bounds-text-end : goal.slice_bounds-text-end
slice_bounds-text-end g c =
    let t = c.close-length in
    (first {n = t.result} {room = 45056} {after = t.new.text} (omega (arith, t.ensures.long, ap length t.ensures.says, total_short c.loop-stretch.watching.total c.loop-stretch.invariant.1)) (omega arith)).fits

pub slice_bounds-write_all-end : goal.slice_bounds-write_all-end
slice_bounds-write_all-end g c =
    let t = c.close-length in
    (first {n = t.result} {room = 45056} {after = t.new.text} (omega (arith, t.ensures.long, ap length t.ensures.says, total_short c.loop-stretch.watching.total c.loop-stretch.invariant.1)) (omega arith)).counted

pub slice_bounds-text-end-in-loop-stretch : goal.slice_bounds-text-end-in-loop-stretch
slice_bounds-text-end-in-loop-stretch g c =
    let h = c.hear-said in
    (first {n = h.result.length} {room = 45056} {after = h.new.text} (omega (arith, h.ensures.long, hears_short h.ensures.says)) (omega arith)).fits

pub slice_bounds-write_all-end-in-loop-stretch : goal.slice_bounds-write_all-end-in-loop-stretch
slice_bounds-write_all-end-in-loop-stretch g c =
    let h = c.hear-said in
    (first {n = h.result.length} {room = 45056} {after = h.new.text} (omega (arith, h.ensures.long, hears_short h.ensures.says)) (omega arith)).counted

pub loop-stretch-smaller : goal.loop-stretch-smaller
loop-stretch-smaller g c =
    let h = c.hear-said in
    let w = c.loop-stretch.watching in
    let some : 0 < c.read_some-count.result = omega arith in
    let p = heard_place c.args.image.now w h.result c.in-Some.is h.ensures.says in
    omega (arith, p, some, c.read_some-count.ensures.1)
