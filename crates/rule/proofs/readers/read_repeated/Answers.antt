-- The sign decides how often the letter is written down.
use Rattle.rule_signs.proofs.Laws.Progress.{sign_bounded}
use Rattle.rule.proofs.readers.read_repeated.Goals as goal

pub put_letter-requires : goal.put_letter-requires
put_letter-requires c =
    let a = c.args in
    (c.requires.room, c.requires.few, sign_bounded a.rule.now a.at c.in_ok-how_often.ensures.reads)
