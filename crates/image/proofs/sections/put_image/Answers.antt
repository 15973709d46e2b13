-- `sections::put_image`: each section is written at its place, from the masks that lay out gives, into words that stay as many as were lent.
use borrow.Author.Rules.{rules}
use Rattle.image.proofs.Laws.Whole.{whole}
use Rattle.image.proofs.sections.put_image.Goals as goal

pub returns : goal.returns
returns c =
    let a = c.args in
    whole a.sections a.tokens.now a.tape c.requires.limits.0 c.requires.laid (search rules) c.requires.limits.1
    a.words.now c.requires.limits.2
    c.row_of-loops.ensures c.put_shape.ensures c.put_letters.ensures c.put_repeats.ensures c.put_tables.ensures
    c.put_tables-2.ensures c.put_tables-3.ensures c.put_tables-4.ensures
