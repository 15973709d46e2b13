-- `lead_back`: the words from i on are made and hand down whether their first source is live, and each turn makes the word below (`led_more`).
use Rattle.run_moves.proofs.Laws.Back.{Led}
use Rattle.run_moves.proofs.lead_back.Given as goal

abbrev pub invariant-loop-i : goal.invariant-loop-i
invariant-loop-i l = Led l.initial.i l.source.words l.target.words l.live.words l.r.words l.above l.i
