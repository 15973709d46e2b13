-- `unite`: several alternatives are enclosed, and one is left as it stands.
use mathlib.Core.Path.{sym, ap, ◌∙◌}
use Rattle.model.specs.Models.Tokens.{shown}
use Rattle.model.specs.Tree.{unmarked}
use Rattle.rule.specs.Tokens.{enclosed}
use Rattle.rule.proofs.Laws.Groups.{union_stands}
use Rattle.rule.proofs.Laws.Stands.{stands_as}
use Rattle.rule.proofs.groups.unite.Goals as goal

pub returns-then-several-clause-stands : goal.returns-then-several-clause-stands
returns-then-several-clause-stands c a before v e s =
    let g = c.args in
    let r = c.enclose.ensures in
    stands_as
    (r.written ∙ ap (enclosed g.tokens.now g.n g.next) (c.shown.ensures ∙ ap (shown unmarked) e))
    r.count
    (union_stands a s (sym v ∙ c.if-several.true))
