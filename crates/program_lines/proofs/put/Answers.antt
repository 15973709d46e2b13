-- Each turn stores one byte more, or nothing where there is no room for it.
use mathlib.Core.Path.{◌≡◌, sym, ◌∙◌}
use Prim.Native.Nat.{◌+◌}
use native.Mathlib.Nat.{add-zero}
use lib.ListN.{get_or, set}
use lib.Seq.{set_out}
use Rattle.program_lines.proofs.Laws.Puts.{bytes_put, put_byte, put_none}
use Rattle.program_lines.proofs.put.Goals as goal
use Rattle.program_lines.proofs.put.Goals.{then-place-text, else-place-text}

pub loop-i-init : goal.loop-i-init
loop-i-init c = put_none c.args.text.now c.args.at (add-zero c.args.at)

pub loop-i-preserved : goal.loop-i-preserved
loop-i-preserved c =
    let a = c.args in
    let l = c.loop-i in
    let b = get_or a.bytes.now l.i 0 in
    let next : c.if-place-text.text ≡ set l.text (a.at + l.i) b =
    elim c.if-place-text.branch [
      | then-place-text w ↦ w.text-is
      | else-place-text w ↦ w.text-is ∙ sym (set_out l.text (a.at + l.i) b w.if-place-text.false)
    ] in
    put_byte a.bytes.now a.text.now l.text a.at l.i l.invariant c.loop-i-test.true next

pub returns : goal.returns
returns c =
    let a = c.args in
    let l = c.loop-i in
    bytes_put a.bytes.now a.text.now l.text a.at l.i l.invariant c.loop-i-test.false
