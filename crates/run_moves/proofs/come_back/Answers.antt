-- `come_back`: where a test ends it nothing is added (`return_none`, `return_held`).
use mathlib.Core.Path.{◌≡◌, sym, ◌∙◌}
use lib.ListN.{length}
use Rattle.mask.proofs.Laws.Bits.{fit_row}
use Rattle.run_moves.proofs.Laws.Back.{return_held, return_none}
use borrow.Author.Rules.{rules}
use Rattle.run_moves.proofs.come_back.Goals as goal

pub returns-then-holds : goal.returns-then-holds
returns-then-holds c =
    let a = c.args in
    let l : length a.live.words ≡ 8 = search rules in
    let f : length a.first.words ≡ 8 = search rules in
    let s : length a.source.words ≡ 8 = search rules in
    let t : length a.target.words ≡ 8 = search rules in
    sym (return_held a.n a.source.words a.target.words a.first.words a.live.words (s ∙ sym l) (t ∙ sym l) (f ∙ sym l)
    (fit_row a.live.words (λ i. search rules)) (c.holds.ensures c.if-holds.true))

pub returns-then-not-meet : goal.returns-then-not-meet
returns-then-not-meet c =
    let a = c.args in
    let l : length a.live.words ≡ 8 = search rules in
    let f : length a.first.words ≡ 8 = search rules in
    let s : length a.source.words ≡ 8 = search rules in
    let t : length a.target.words ≡ 8 = search rules in
    sym (return_none a.n a.source.words a.target.words a.first.words a.live.words (s ∙ sym l) (t ∙ sym l) (f ∙ sym l)
    (c.meet.ensures.0 c.if-not-meet.true))
