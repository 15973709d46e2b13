-- `propagate` is the propagate of one word: (source - 1) - from is the complement of from - source.
use lib.Bits.{and_lt, bit_and, or_lt}
use Rattle.run_word.proofs.Laws.Passes.{propagate_one}
use Rattle.run_word.proofs.passes.propagate.Goals as goal

pub returns : goal.returns
returns c =
    let a = c.args in
    let g = c.well_formed in
    propagate_one a.block a.below a.target a.live g.1.1.0.1 (or_lt 64 (bit_and a.live a.block) a.target (and_lt 64 a.live a.block g.0.1 g.1.0.1) g.1.1.1.0.1)
