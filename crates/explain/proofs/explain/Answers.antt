-- Where the answer is done, the places lie in the journal and there is one state per byte.
use mathlib.Core.Path.{sym}
use native.Mathlib.Omega.{arith}
use Rattle.program_lines.proofs.Laws.Room.{first}
use Rattle.explain.proofs.Laws.{Lies, proposed_lies, record_fits, states_few}
use Rattle.explain.proofs.explain.Goals as goal
use Rattle.explain.proofs.explain.Goals.{In-Ok}

found : (c : In-Ok) → Lies c.args.journal.now c.in-Ok.field-0.start c.args.end c.in-Ok.field-0.count
found c = proposed_lies c.propose_spelling.new.states c.in-Ok.field-0 c.in-Ok.ensures

pub slice_bounds-put_record-count : goal.slice_bounds-put_record-count
slice_bounds-put_record-count c = (found (goal.at.slice_bounds-put_record-count c).In-Ok).ordered

pub slice_bounds-put_record-start : goal.slice_bounds-put_record-start
slice_bounds-put_record-start c = omega (arith, found (goal.at.slice_bounds-put_record-start c).In-Ok)

pub slice_bounds-put_record-end : goal.slice_bounds-put_record-end
slice_bounds-put_record-end c = omega (arith, found (goal.at.slice_bounds-put_record-end c).In-Ok)

pub put_record-requires : goal.put_record-requires
put_record-requires c =
    let p = c.propose_spelling in
    let lies = found (goal.at.put_record-requires c).In-Ok in
    record_fits lies (sym (first {room = 65535} {after = p.new.states} (states_few lies) p.auto.states).counted)
