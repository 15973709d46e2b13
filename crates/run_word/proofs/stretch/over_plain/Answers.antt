-- `over_plain`: without back edges the passes are all that a step's two rounds do.
use Rattle.std.proofs.Common.{[], get_or, ◌∙◌}
use Rattle.run_word.proofs.Laws.Rounds.{no_edges}
use Rattle.run_word.proofs.stretch.over_plain.Goals as goal

pub returns : goal.returns
returns c =
    let a = c.args in
    let ws = a.image.now in
    let w = a.work.now in
    let t = w.table in
    c.over.ensures w.any (get_or t 6 0) (get_or t 7 0) (get_or t 8 0) t [] w.depth
    (λ x y h p. p ws [] ∙ no_edges ws w.any (get_or t 6 0) (get_or t 7 0) (get_or t 8 0) t w.depth x)
