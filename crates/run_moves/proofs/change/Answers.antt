-- `change`: the source is kept less one (`complement_less`).
use mathlib.Core.Bool.{true}
use lib.ListN.{take}
use Rattle.mask.proofs.Laws.Bits.{fit_row}
use Rattle.run_moves.proofs.Laws.Less.{complement_less, fit_take, take_plus}
use borrow.Author.Rules.{rules}
use Rattle.run_moves.proofs.change.Goals as goal

pub returns : goal.returns
returns c =
    let a = c.args in
    let f = a.from.words in
    let b = a.below.words in
    let n = a.n in
    cc (complement_less (take n b) (take n f) (fit_take n b (fit_row b (λ i. search rules))) (fit_take n f (fit_row f (λ i. search rules))), take_plus n b true)
