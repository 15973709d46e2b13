-- `close_item`: after the alternatives stands `)`, then the sign, and with it the alternatives are an item as `group` leaves them.
use Rattle.tokens.specs.Tokens.{repeat_of}
use Rattle.rule.proofs.Laws.Groups.{close_here}
use Rattle.rule.proofs.groups.close_item.Goals as goal

pub returns : goal.returns
returns c m before r =
    let k = c.read_mark-sign in
    let a = c.args in
    close_here a.rule.now a.n m before r.1 c.byte_at.ensures c.if-byte_at-ne41.false (repeat_of k.result.repeat) k.ensures
    (c.group.ensures r.0 before r.2 r.1.empties r.1.stands) c.can_skip.ensures
