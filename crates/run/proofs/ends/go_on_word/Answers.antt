-- `go_on_word`: the loop on plain words, and the word after it as the first of eight (`went_word`).
use native.Mathlib.Omega.{arith}
use Rattle.mask.proofs.Laws.Bits.{fit_row}
use Rattle.image_sections.proofs.Laws.Within.{own_states}
use Rattle.run_word.proofs.Laws.Bytes.{all_bytes}
use Rattle.run.proofs.Image.Stretch.{went_word}
use Rattle.run.proofs.ends.go_on_word.Goals as goal

pub returns : goal.returns
returns c = λ t I M.
    let g = c.go_on-ran in
    let a = c.args in
    let P = c.requires.0.placed in
    went_word a.image.now.words.now t I (omega (arith, own_states P, c.requires.1)) P a.mask.now (fit_row a.mask.now c.type_inv.mask) M a.place a.stretch.now
    (all_bytes a.stretch.now (λ i. omega (arith, c.type_inv.stretch i))) a.ends.now g.result.total g.new.ends g.ensures
