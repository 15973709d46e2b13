-- `over_fixed`: without back edges the passes are all that a step's two rounds do.
use Rattle.std.proofs.Common.{[], get_or, ◌∙◌}
use Rattle.run_word.proofs.Laws.Rounds.{no_edges}
use Rattle.run_word.proofs.stretch.over_fixed.Goals as goal

pub returns : goal.returns
returns g c =
    let a = c.args in
    let ws = a.image.now in
    let t = a.work.now.table in
    c.over.ensures _ (get_or t 6 0) (get_or t 7 0) (get_or t 8 0) t [] g.row.DEPTH
    (λ x y h p. p ws [] ∙ no_edges ws _ (get_or t 6 0) (get_or t 7 0) (get_or t 8 0) t g.row.DEPTH x)
