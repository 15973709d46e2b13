-- The three readers do what the model's three do, by one induction: each way out of a reader is one law of Laws/Cycle.
use mathlib.Core.Path.{sym, ◌∙◌, subst, subst₂}
use mathlib.Core.Bool.{◌&&◌}
use mathlib.Core.List.{List}
use Prim.Native.Nat.{ℕ, ◌+◌}
use native.Mathlib.Omega.{arith}
use lib.ListN.{drop}
use Rattle.std.proofs.Common.{Err, Ok}
use Rattle.model.specs.Models.Reader.{alts, seq}
use Rattle.rule.specs.Parts.{AlternativesSay, PartSays}
use Rattle.rule_bytes.proofs.Laws.Answers.{given_on}
use Rattle.rule.proofs.Laws.Cycle.{alternatives_end, alternatives_go, alternatives_stop, alternatives_stop_later, item_bracket, item_letter, item_on, sequence_ends, sequence_goes, sequence_stops}
use Rattle.rule.proofs.Laws.Groups.{close_stops}
use Rattle.rule.proofs.Laws.Placed.{alternatives_tell, item_tells, sequence_tells}
use Rattle.rule.proofs.Laws.Stands.{room_after}
use Rattle.rule.proofs.readers.+read_alternatives_read_item_read_sequence.Goals as goal

-- ---- items
pub read_item-returns-then-byte_at-ne40 : goal.read_item-returns-then-byte_at-ne40
read_item-returns-then-byte_at-ne40 t c =
    let a = c.args in
    let h = c.requires.inside in
    item_tells _ _ _ _ _ h _
    (item_letter a.rule.now a.at a.n a.tokens.now c.read_piece.new.tokens c.read_piece.result c.byte_at.ensures
    h c.if-byte_at-ne40.true c.read_piece.ensures.reads)

pub read_item-returns-in_err-alternatives : goal.read_item-returns-in_err-alternatives
read_item-returns-in_err-alternatives t c =
    let a = c.args in
    let e = c.in_err-alternatives in
    rw (given_on c.from_residual.ensures.1)
    (item_tells _ _ _ _ _ c.requires.inside _
    (item_bracket a.rule.now a.at a.n a.tokens.now c.read_alternatives.new.tokens (Err e.field-0.0) c.byte_at.ensures c.if-byte_at-ne40.false
    (close_stops a.rule.now a.n (alts (drop (a.at + 1) a.rule.now)) a.tokens.now e.ensures.reads)))

pub read_item-returns : goal.read_item-returns
read_item-returns t c =
    let a = c.args in
    item_tells _ _ _ _ _ c.requires.inside _
    (item_bracket a.rule.now a.at a.n a.tokens.now c.close_item.new.tokens c.close_item.result c.byte_at.ensures
    c.if-byte_at-ne40.false (c.close_item.ensures (alts (drop (a.at + 1) a.rule.now)) a.tokens.now c.in_ok-alternatives.ensures.reads))

-- ---- sequences
pub read_sequence-returns-in_default : goal.read_sequence-returns-in_default
read_sequence-returns-in_default t c =
    let l = c.loop-item in
    let rule = c.args.rule.now in
    let r = c.read_item-answer in
    let e = c.in_default.is in
    sequence_tells _ _ _ _ _ c.requires.inside _
    (l.invariant.goes r.new.tokens r.result
    (subst (PartSays l.empty rule l.next (seq (drop l.place rule)) l.tokens r.new.tokens) (sym e)
    (sequence_stops rule l.place c.in_default.ensures.reads)))

pub read_sequence-returns-then-is_over : goal.read_sequence-returns-then-is_over
read_sequence-returns-then-is_over t c =
    let l = c.loop-item in
    let i = c.in-Ok.item in
    sequence_tells _ _ _ _ _ c.requires.inside _
    (l.invariant.goes c.read_item-answer.new.tokens (Ok (record { place = i.place; next = i.next; empty = l.empty && i.empty }))
    (sequence_ends c.args.rule.now l.place l.next c.in-Ok.ensures.reads.1 l.empty (sym c.is_over.ensures ∙ c.if-is_over.true)))

pub read_sequence-loop-item-smaller : goal.read_sequence-loop-item-smaller
read_sequence-loop-item-smaller t c =
    let l = c.loop-item in
    let w = c.in-Ok.ensures.reads.1 in
    omega (arith, item_on c.args.rule.now l.place l.next w, w.took.inside)

pub read_sequence-loop-item-preserved : goal.read_sequence-loop-item-preserved
read_sequence-loop-item-preserved t c =
    let l = c.loop-item in
    let rule = c.args.rule.now in
    let w = c.in-Ok.ensures.reads.1 in
    let o = sym c.is_over.ensures ∙ c.if-is_over.false in
    record {
      ready = record { inside = w.took.inside; short = l.invariant.ready.short; room = room_after w.stands; few = omega (arith, w.stands.count) };
      on = omega (arith, l.invariant.on, item_on rule l.place l.next w);
      goes = λ final q s. l.invariant.goes final q (sequence_goes rule l.place l.next w l.empty o final q s);
    }

-- ---- alternatives
pub read_alternatives-returns-in-Err : goal.read_alternatives-returns-in-Err
read_alternatives-returns-in-Err t c =
    let a = c.args in
    alternatives_tell _ _ _ _ _ c.requires.inside _ (alternatives_stop a.rule.now a.at c.in-Err.ensures.reads)

pub read_alternatives-returns-then-byte_at-ne124 : goal.read_alternatives-returns-then-byte_at-ne124
read_alternatives-returns-then-byte_at-ne124 t c =
    let a = c.args in
    alternatives_tell _ _ _ _ _ c.requires.inside _
    (alternatives_end a.rule.now a.at a.n c.in-Ok.ensures.reads.1 c.byte_at.ensures c.if-byte_at-ne124.true)

pub read_alternatives-returns-in_err-rest : goal.read_alternatives-returns-in_err-rest
read_alternatives-returns-in_err-rest t c =
    let a = c.args in
    rw (given_on c.from_residual.ensures.1)
    (alternatives_tell _ _ _ _ _ c.requires.inside _
    (alternatives_stop_later a.rule.now a.at a.n c.in-Ok.ensures.reads.1 c.byte_at.ensures c.if-byte_at-ne124.false c.in_err-rest.ensures.reads))

pub read_alternatives-returns : goal.read_alternatives-returns
read_alternatives-returns t c =
    let a = c.args in
    let r = c.read_alternatives in
    let u = c.put_union-after.ensures in
    let k = c.in_ok-rest in
    alternatives_tell _ _ _ _ _ c.requires.inside _
    (alternatives_go a.rule.now a.at a.n c.in-Ok.ensures.reads.1 c.byte_at.ensures c.if-byte_at-ne124.false r.new.tokens k.rest
    (subst₂ (λ (l : List ℕ) (n : ℕ). AlternativesSay a.rule.now n (alts (drop (c.in-Ok.first.place + 1) a.rule.now)) l r.new.tokens (Ok k.rest))
    u.written u.count k.ensures.reads))
