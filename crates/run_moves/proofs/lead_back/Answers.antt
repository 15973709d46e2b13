-- `lead_back`: the words from i on are made and hand down whether their first source is live, and each turn makes the word below (`led_more`).
use Rattle.run_moves.proofs.Laws.Back.{led_more}
use borrow.Author.Rules.{rules}
use Rattle.run_moves.proofs.lead_back.Goals as goal

pub loop-i-preserved : goal.loop-i-preserved
loop-i-preserved c =
    led_more c.loop-i.invariant c.upto-i.ensures.0 (search rules) (search rules) (search rules) c.loop-i-test.true c.lead_back.ensures c.first_live-above.ensures
