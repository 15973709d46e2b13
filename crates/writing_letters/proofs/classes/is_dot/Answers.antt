-- `is_dot`: a class is the dot's exactly if its words are.
use mathlib.Core.Path.{◌≡◌, ◌∙◌}
use lib.ListN.{length}
use borrow.Author.Rules.{rules}
use Rattle.mask.proofs.Laws.Bits.{fit_row}
use Rattle.writing_letters.proofs.Laws.Words.{same_dot}
use Rattle.writing_letters.proofs.classes.is_dot.Goals as goal

pub returns : goal.returns
returns c =
    let ws = c.args.class in
    let four : length ws ≡ 4 = search rules in
    c.eq.ensures ∙ same_dot ws four (fit_row ws (λ k. search rules))
