-- `run_by`: at each turn what was noted and what is still to come is the whole list, and the words run on to the last ones (`Since`).
use lib.ListN.{take}
use Rattle.run.specs.Work.{rule_masks}
use Rattle.run_word.proofs.Laws.Stretch.{Since}
use Rattle.run.proofs.stretch.run_by.Given as goal

abbrev pub invariant-loop-p : goal.invariant-loop-p
invariant-loop-p g l =
    Since (rule_masks l.image l.width l.work.table) l.work.depth l.last l.from.place l.stretch l.initial.places (take l.width l.initial.live) l.initial.total l.initial.p l.places (take l.width l.live) l.total l.p
