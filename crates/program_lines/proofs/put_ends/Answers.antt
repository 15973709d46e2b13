-- Each turn puts one end's line more, of at most 21 bytes.
use mathlib.Core.Path.{refl}
use native.Mathlib.Omega.{arith}
use lib.ListN.{take}
use Rattle.program_lines.proofs.Laws.Numbers.{number_short}
use Rattle.program_lines.proofs.Laws.Puts.{all_shown, put_end, put_none}
use Rattle.program_lines.proofs.put_ends.Goals as goal

pub loop-end-init : goal.loop-end-init
loop-end-init c = let a = c.args in (put_none a.text.now a.at refl, omega arith)

pub loop-end-preserved : goal.loop-end-preserved
loop-end-preserved c =
    let l = c.loop-end in
    let a = c.args in
    let p = c.put_number-next in (
      put_end (take c.min-shown.result a.ends.now) a.text.now l.text a.at l.next l.end-index l.invariant.0 c.loop-end-test.true (rw c.from.ensures at p.ensures),
      omega (arith, l.invariant.1, p.ensures.place, number_short 19 c.from.result (omega (arith, c.from.ensures, c.type_inv.ends l.end-index))),
    )

pub returns : goal.returns
returns c =
    let l = c.loop-end in
    rw (all_shown c.args.ends.now c.min-shown.result c.args.count l.end-index c.min-shown.ensures c.loop-end-test.false) at l.invariant.0
