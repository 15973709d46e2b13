-- `go_on_words`: the loop with the table of work, from the words of a mask (`went`).
use mathlib.Core.Path.{subst}
use Prim.Native.Nat.{ℕ, ◌-◌}
use lib.ListN.{take}
use native.Mathlib.Omega.{arith}
use Rattle.mask.proofs.Laws.Bits.{fit_row}
use Rattle.image_sections.proofs.Laws.Within.{words_fit}
use Rattle.run_word.specs.Ends.{RanOver}
use Rattle.run_word.proofs.Laws.Bytes.{all_bytes}
use Rattle.run.specs.Work.{rule_masks}
use Rattle.run.proofs.Image.Stretch.{went}
use Rattle.run.proofs.Laws.Table.{overs, tabled_of}
use Rattle.run.proofs.ends.go_on_words.Goals as goal

pub run_over-requires : goal.run_over-requires
run_over-requires c = let m = c.of in overs c.args.image.now.placed c.requires.1 c.requires.0.limits m.ensures.deep m.ensures.tabled

pub returns : goal.returns
returns c = λ t I M.
    let r = c.run_over in
    let m = c.of in
    let a = c.args in
    let ws = a.image.now.words.now in
    let p = a.image.now.sections in
    let P = c.requires.0.placed in
    let first = c.row_at.result in
    went ws t I (words_fit ws a.image.now.fit) m.result.table (tabled_of m.result.table P m.ensures.tabled) P a.mask.now
    (fit_row a.mask.now c.type_inv.mask) M a.place a.stretch.now
    (all_bytes a.stretch.now (λ i. omega (arith, c.type_inv.stretch i))) first a.ends.now r.result.words r.result.total r.new.places c.row_at.ensures
    (subst (λ (d : ℕ). RanOver (rule_masks ws p.width m.result.table) p.width d (p.states - 1) a.place 0 a.stretch.now (take p.width first)
    a.ends.now r.result.words r.result.total r.new.places) m.ensures.deep r.ensures)
