-- `group`: each sign does with the tokens what the grammar does with the tree: brackets, an open and a close, or the same once more and around that an open
-- and a close.
use mathlib.Core.Path.{sym, ap, ◌∙◌}
use mathlib.Core.List.{List}
use Prim.Native.Nat.{ℕ}
use native.Mathlib.Omega.{arith}
use Rattle.model.specs.Tree.{starred}
use Rattle.rule.specs.Tokens.{enclosed}
use Rattle.rule.proofs.Laws.Groups.{option_stands, plus_stands, star_stands}
use Rattle.rule.proofs.Laws.Stands.{stands_as}
use Rattle.rule.proofs.groups.group.Goals as goal

pub returns-else-empty : goal.returns-else-empty
returns-else-empty c a before v e s =
    let r = c.enclose.ensures in
    rw c.in-Option.is (stands_as r.written r.count (option_stands a s (sym e ∙ c.if-empty.false)))

pub returns-in-Star : goal.returns-in-Star
returns-in-Star c a before v e s =
    let r = c.enclose-in-Star.ensures in
    rw c.in-Star.is (stands_as r.written r.count (star_stands a (c.unite-body.ensures.stands a before v e s)))

pub returns-in-Plus : goal.returns-in-Plus
returns-in-Plus c a before v e s =
    let u = c.unite-end in
    let d = c.double-twice in
    let r = c.enclose-in-Plus.ensures in
    rw c.in-Plus.is
    (stands_as (r.written ∙ ap (λ (l : List ℕ). enclosed l u.result d.result starred) d.ensures.written) r.count
    (plus_stands a (u.ensures.stands a before v e s) (omega arith) d.ensures.count))
