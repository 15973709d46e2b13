-- `come_round`: without a live source nothing is added (`returns_none`).
use mathlib.Core.Path.{sym}
use native.Mathlib.Nat.{le_refl}
use borrow.Author.Rules.{rules}
use Rattle.run.proofs.Laws.Rounds.{returns_none}
use Rattle.run.proofs.rounds.come_round.Goals as goal

pub returns : goal.returns
returns c =
    let a = c.args in
    sym (returns_none a.n a.work.now.table a.work.now.depth a.sources.words c.requires.0 c.requires.1 a.first.words (search rules)
    (c.meet.ensures.0 c.if-meet.false) a.work.now.depth (le_refl a.work.now.depth))
