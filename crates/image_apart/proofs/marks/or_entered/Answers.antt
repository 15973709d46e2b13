-- `or_entered`: after j turns the row has the first j words of those that an edge enters, and each turn adds one more.
use mathlib.Core.Path.{sym, ap, ◌∙◌}
use native.Mathlib.Omega.{arith}
use lib.Seq.{take_all}
use Rattle.image_sections.proofs.Laws.Within.{within}
use Rattle.image_apart.specs.Work.{entered_words, or_first}
use Rattle.image_apart.proofs.Laws.Rows.{entered_at, entered_long, or_more, or_nothing}
use Rattle.image_apart.proofs.marks.or_entered.Goals as goal

pub loop-j-init : goal.loop-j-init
loop-j-init c = sym (or_nothing c.args.row.now)

pub loop-j-preserved : goal.loop-j-preserved
loop-j-preserved c =
    let a = c.args in
    let l = c.loop-j in
    let h = c.loop-j-test.true in
    let ws = a.image.now.words.now in
    let W = a.image.now.sections.width in
    or_more a.row.now (entered_words ws a.at W) _ l.invariant (omega (arith, c.told-row, (within a.image.now.placed).narrow, h))
    (omega (arith, entered_long ws a.at W c.requires, h)) (entered_at ws a.at W c.requires l.j h)

pub returns : goal.returns
returns c =
    let a = c.args in
    let l = c.loop-j in
    let ws = a.image.now.words.now in
    let W = a.image.now.sections.width in
    let xs = entered_words ws a.at W in
    l.invariant
    ∙ ap (or_first a.row.now) (take_all l.j xs (omega (arith, entered_long ws a.at W c.requires, c.loop-j-test.false)))
