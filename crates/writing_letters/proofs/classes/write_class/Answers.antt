-- `write_class`: the first byte in the class, the next after it and whether it is the dot's tell which of the three writings is the class's.
use mathlib.Core.Path.{◌≡◌, sym, ◌∙◌}
use mathlib.Core.Bool.{true, false}
use mathlib.Core.List.{[], ◌∷◌, ◌++◌}
use Prim.Native.Nat.{ℕ, ◌+◌, ◌^◌, ◌≤◌, ◌<◌}
use native.Mathlib.Omega.{arith}
use borrow.Author.Rules.{rules}
use lib.ListN.{length}
use Rattle.model.specs.Bytes.{byte}
use Rattle.model.specs.Models.Words.{value}
use Rattle.model.specs.Writing.{outside}
use Rattle.model.proofs.Words.Holds.{val_below}
use Rattle.mask.proofs.Laws.Bits.{fit_row}
use Rattle.writing_letters.proofs.Laws.Bounds.{outside_short}
use Rattle.writing_letters.proofs.Laws.Classes.{no_byte, NotOne, one_byte, one_written, other_written, two_bytes}
use Rattle.writing_letters.proofs.Laws.Texts.{writes_as, writes_one, writes_then}
use Rattle.writing_letters.proofs.classes.write_class.Goals as goal
use Rattle.writing_letters.proofs.classes.write_class.Goals.{else-first-lt256-via-then-first-lt256+else-next_in-eq256, else-first-lt256-via-else-first-lt256}

-- the place after the runs leaves room for one more
room : (at n p : ℕ) → at < 2 ^ 30 → n ≤ 2304 → p ≡ at + 1 + n → p + 1 < 2 ^ 64
room at n p h k e = omega arith

pub returns-then-next_in-eq256 : goal.returns-then-next_in-eq256
returns-then-next_in-eq256 c =
    let v = value c.args.class in
    let small : v < 2 ^ 256 = val_below 4 c.args.class (search rules) (fit_row c.args.class (λ k. search rules)) in
    let f = c.next_in-first in
    let taken = c.if-first-lt256.true in
    let e = one_byte v f.result small taken f.ensures.skipped (f.ensures.hit taken)
    (λ x h k. c.next_in.ensures.skipped x h (omega (arith, c.if-next_in-eq256.true))) in
    let w = writes_as c.args.out.now c.args.at (sym (one_written v f.result taken e)) (c.write_byte.ensures.place, c.write_byte.ensures.written) in
    record { place = w.0; written = w.1 }

pub returns-then-is_dot : goal.returns-then-is_dot
returns-then-is_dot c =
    let v = value c.args.class in
    let f = c.next_in-first in
    -- no byte was found, or two were
    let several : NotOne v =
    elim c.else-first-lt256.branch [
      | else-first-lt256-via-then-first-lt256+else-next_in-eq256 w ↦
          two_bytes v f.result w.next_in.result (omega (arith, w.next_in.ensures.from)) (f.ensures.hit w.if-first-lt256.true)
          (w.next_in.ensures.hit (omega (arith, w.next_in.ensures.upto, w.if-next_in-eq256.false)))
      | else-first-lt256-via-else-first-lt256 w ↦ no_byte v (λ x h k. f.ensures.skipped x h (omega (arith, w.if-first-lt256.false)))
    ] in
    let e = sym c.is_dot.ensures ∙ c.if-is_dot.true in
    let l = c.args.out.now in
    let w = writes_as l c.args.at (sym (other_written v several true e)) (writes_one l c.args.at (byte ".") c.set_byte.ensures) in
    record { place = w.0; written = w.1 }

pub overflow_add-result-2 : goal.overflow_add-result-2
overflow_add-result-2 c =
    let v = value c.args.class in
    record { fits = room c.args.at (length (outside 256 v 0)) c.write_runs-p.result c.requires (outside_short 256 v 0) c.write_runs-p.ensures.place }

pub returns : goal.returns
returns c =
    let v = value c.args.class in
    let f = c.next_in-first in
    let several : NotOne v =
    elim c.else-first-lt256.branch [
      | else-first-lt256-via-then-first-lt256+else-next_in-eq256 w ↦
          two_bytes v f.result w.next_in.result (omega (arith, w.next_in.ensures.from)) (f.ensures.hit w.if-first-lt256.true)
          (w.next_in.ensures.hit (omega (arith, w.next_in.ensures.upto, w.if-next_in-eq256.false)))
      | else-first-lt256-via-else-first-lt256 w ↦ no_byte v (λ x h k. f.ensures.skipped x h (omega (arith, w.if-first-lt256.false)))
    ] in
    let w = c.write_runs-p in
    let m = c.set_byte-2 in
    let l = c.args.out.now in
    let at = c.args.at in
    let runs = outside 256 v 0 in
    let e = sym c.is_dot.ensures ∙ c.if-is_dot.false in
    let all = writes_as l at (sym (other_written v several false e))
    (writes_then l at (byte "[" ∷ []) (runs ++ (byte "]" ∷ [])) (writes_one l at (byte "[") m.ensures)
    (writes_then m.new.out (at + 1) runs (byte "]" ∷ []) (w.ensures.place, w.ensures.written)
    (writes_one w.new.out w.result (byte "]") c.set_byte-3.ensures))) in
    record { place = all.0; written = all.1 }
