-- `close`: the comparison of the two words is the model's of two rows of one.
use Rattle.std.proofs.Common.{[], ◌∷◌, get_or, ◌∙◌}
use Rattle.run_word.specs.One.{work_masks}
use Rattle.run_word.proofs.Laws.Rounds.{closed_once, closed_twice}
use Rattle.run_word.proofs.rounds.close.Goals as goal

pub returns-then-more-first : goal.returns-then-more-first
returns-then-more-first c = λ ws.
    let m = c.returns-more in
    let f = c.pass-first in
    let a = c.args in
    let w = a.work.now in
    let t = w.table in
    closed_once (work_masks ws w.any t w.backs) w.depth (a.live ∷ []) f.result m.result (f.ensures ws w.backs)
    (m.ensures ws w.any (get_or t 6 0) (get_or t 7 0) (get_or t 8 0) t) c.if-more-first.true

pub returns : goal.returns
returns c = λ ws.
    let m = c.returns-more in
    let f = c.pass-first in
    let a = c.args in
    let w = a.work.now in
    let t = w.table in
    c.pass.ensures ws w.backs
    ∙ closed_twice (work_masks ws w.any t w.backs) w.depth (a.live ∷ []) f.result m.result (f.ensures ws w.backs)
    (m.ensures ws w.any (get_or t 6 0) (get_or t 7 0) (get_or t 8 0) t) c.if-more-first.false
