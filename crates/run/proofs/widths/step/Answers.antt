-- `step`: where there is no back edge one round is both (`once_made`).
use Rattle.std.proofs.Common.{rules}
use Rattle.run.proofs.Laws.Passes.{step_made}
use Rattle.run.proofs.Laws.Rounds.{once_made}
use Rattle.run.proofs.widths.step.Goals as goal

pub returns-then-not-this : goal.returns-then-not-this
returns-then-not-this g c =
    let a = c.args in
    once_made (step_made g.row.N a.image.now a.byte a.work.now.depth a.work.now.table a.live.now c.moved-on.result.words c.pass-first.result.words c.moved-on.ensures c.pass-first.ensures (search rules))
    c.requires.0.whole (c.requires.1 (search rules))
