-- `either`: two rows joined word by word.
use mathlib.Core.Path.{◌≡◌}
use lib.ListN.{length}
use Rattle.mask.proofs.Laws.Bits.{fit_row}
use Rattle.spelling_propose.proofs.Laws.Sets.{either_says}
use borrow.Author.Rules.{rules}
use Rattle.spelling_propose.proofs.sets.either.Goals as goal

pub returns : goal.returns
returns c =
    let a = c.args.a in
    let b = c.args.b in
    let r = c.or-r.result.words in
    let la : length a ≡ 8 = search rules in
    let lb : length b ≡ 8 = search rules in
    let lr : length r ≡ 8 = search rules in
    either_says a b r la lb lr (fit_row a (λ i. search rules)) (fit_row b (λ i. search rules)) c.or-r.ensures
