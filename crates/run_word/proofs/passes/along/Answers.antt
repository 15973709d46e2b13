-- `along`: without a chain the block is empty, and nothing is reached.
use Rattle.model.specs.Models.Words.{wrap_add}
use Rattle.run_word.proofs.Laws.Passes.{propagate_none}
use Rattle.run_word.proofs.passes.along.Goals as goal

pub returns : goal.returns
returns c = let a = c.args in simp c.if-any.false (propagate_none (wrap_add a.below 1) a.target a.live)
