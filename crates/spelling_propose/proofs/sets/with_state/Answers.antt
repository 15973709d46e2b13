-- `with_state`: a bit put into a row.
use mathlib.Core.Path.{◌≡◌}
use lib.ListN.{length}
use Rattle.mask.proofs.Laws.Bits.{fit_row}
use Rattle.spelling_propose.proofs.Laws.Sets.{with_says}
use borrow.Author.Rules.{rules}
use Rattle.spelling_propose.proofs.sets.with_state.Goals as goal

pub returns : goal.returns
returns c =
    let row = c.args.row in
    let long : length row ≡ 8 = search rules in
    with_says row c.row_with_bit.result c.args.q c.requires long (fit_row row (λ i. search rules)) c.row_with_bit.ensures
