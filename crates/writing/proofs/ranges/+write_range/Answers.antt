-- From turn to turn the tokens written so far are a range's text; a union's inner range is written by the function itself, and that range is shorter.
use mathlib.Core.Path.{◌≡◌, subst}
use Prim.Native.Nat.{ℕ, ◌+◌, ◌-◌, ◌/◌}
use native.Mathlib.Omega.{arith}
use Rattle.image_classes.specs.Classes.{ColumnOf}
use Rattle.writing.proofs.Laws.Ranges.{tokens_of, wrote_then, wrote_token}
use Rattle.writing.proofs.ranges.+write_range.Goals as goal

pub move_on-requires : goal.move_on-requires
move_on-requires t c =
    let l = c.loop-i in
    let e : l.i ≡ l.i + 1 - 1 = omega arith in (
      omega arith,
      subst (λ (n : ℕ). ColumnOf c.args.image.now.words.now c.args.image.now.sections.width (n / 64) l.classes) e l.invariant.column,
    )

pub loop-i-preserved-in-Open : goal.loop-i-preserved-in-Open
loop-i-preserved-in-Open t c =
    let l = c.loop-i in
    let a = c.args in
    let close = c.close_of-close.ensures in
    let inner = c.write_range-end.ensures in
    let token = wrote_token a.image.now.words.now a.image.now.sections.width a.kinds.now a.out.now a.at a.from l.invariant.wrote c.move_on.new.classes c.move_on.ensures
    c.read_kind-token.result c.read_kind-token.ensures (c.write_token-next.ensures.place, c.write_token-next.ensures.written) in
    record {
      inside = close.1;
      wrote = wrote_then (tokens_of a.image.now.words.now a.image.now.sections.width a.kinds.now) a.out.now a.at a.from token
          (record { since = close.0; text = (inner.place, inner.written); bound = inner.bound });
      column = inner.column;
    }

pub loop-i-preserved : goal.loop-i-preserved
loop-i-preserved t c =
    let l = c.loop-i in
    let a = c.args in
    record {
      inside = omega arith;
      wrote = wrote_token a.image.now.words.now a.image.now.sections.width a.kinds.now a.out.now a.at a.from l.invariant.wrote c.move_on.new.classes c.move_on.ensures
          c.read_kind-token.result c.read_kind-token.ensures (c.write_token-next.ensures.place, c.write_token-next.ensures.written);
      column = c.move_on.ensures;
    }

pub returns-clause-column : goal.returns-clause-column
returns-clause-column t c =
    let l = c.loop-i in
    let e : l.i ≡ c.args.to = omega arith in
    subst (λ (n : ℕ). ColumnOf c.args.image.now.words.now c.args.image.now.sections.width (n / 64) l.classes) e l.invariant.column
