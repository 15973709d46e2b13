-- `look`: one place is seen by the words themselves, and 64 is 1 doubled six times.
use Rattle.run_back.proofs.Laws.Words.{seen_one}
use Rattle.run_back.proofs.look.Goals as goal

pub returns : goal.returns
returns c =
    let a = c.args in
    let s = a.source in
    let l = a.live in
    c.twice-4.ensures s l (c.twice-3.ensures s l (c.twice-sixteen.ensures s l
    (c.twice-2.ensures s l (c.twice-four.ensures s l (c.twice.ensures s l (seen_one s l))))))
