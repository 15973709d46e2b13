-- `over_back`: a step's part after the move is the two rounds.
use Rattle.std.proofs.Common.{get_or}
use Rattle.run_word.proofs.stretch.over_back.Goals as goal

pub returns : goal.returns
returns c =
    let a = c.args in
    let w = a.work.now in
    let t = w.table in
    c.over.ensures w.any (get_or t 6 0) (get_or t 7 0) (get_or t 8 0) t w.backs w.depth (λ x y h p. p a.image.now)
