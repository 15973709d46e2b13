-- `choose`: the lowest state in both.
use mathlib.Core.Path.{◌≡◌}
use lib.ListN.{length}
use Rattle.mask.proofs.Laws.Bits.{fit_row}
use Rattle.spelling_propose.proofs.Laws.Sets.{both_has}
use Rattle.spelling_propose.proofs.Laws.Walk.{choose_says}
use borrow.Author.Rules.{rules}
use Rattle.spelling_propose.proofs.write.choose.Goals as goal

pub returns : goal.returns
returns c =
    let n = c.enter-entered in
    let f = c.reach-from in
    let b = c.and-both in
    let a = c.args in
    let v = a.set in
    let lo : length n.result.words ≡ 8 = search rules in
    let ls : length v ≡ 8 = search rules in
    let lb : length b.result.words ≡ 8 = search rules in
    choose_says a.edges.now.image.words.now a.at f.result.words v n.result.words b.result.words a.byte c.lowest.result f.ensures.reached n.ensures.entered
    (both_has n.result.words v b.result.words lo ls lb (fit_row n.result.words (λ i. search rules)) (fit_row v (λ i. search rules)) b.ensures) c.lowest.ensures
