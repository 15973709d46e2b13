-- `propose`: what the search and the writing say is a row of the table.
use Rattle.std.proofs.lemmas.Result.{err_from_is_err_and}
use Rattle.spelling_propose.proofs.Laws.Propose.{asked, nowhere, ordered, passed_on, too_short, written}
use Rattle.spelling_propose.proofs.propose.Goals as goal

pub find_start-found-requires : goal.find_start-found-requires
find_start-found-requires c = asked c.requires

pub returns-in_err-start : goal.returns-in_err-start
returns-in_err-start c =
    let p = err_from_is_err_and c.from_residual.result c.from_residual.ensures.1 in
    let q = c.in_err-start.ensures in
    rw (p.1, p.2, passed_on q.ok_part q.value) (nowhere c.requires c.args.states.now c.find_start-found.ensures q.ok_part)

pub overflow_sub-count : goal.overflow_sub-count
overflow_sub-count c = ordered c.requires c.args.states.now c.find_start-found.ensures c.in_ok-start.ensures.ok_part

pub returns-then-states-count : goal.returns-then-states-count
returns-then-states-count c =
    too_short c.requires c.args.states.now c.find_start-found.ensures c.in_ok-start.ensures.ok_part c.if-states-count.true

pub write-requires : goal.write-requires
write-requires c =
    let A = c.requires in
    let before_end = ordered A c.args.states.now c.find_start-found.ensures c.in_ok-start.ensures.ok_part in
    record { asked = asked A; ordered = before_end; room = c.if-states-count.false }

pub returns : goal.returns
returns c =
    written c.requires c.args.states.now c.find_start-found.ensures c.in_ok-start.ensures.ok_part c.if-states-count.false
    c.write.ensures
