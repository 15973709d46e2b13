-- `shift`'s step: a word moved up by one has room below for the bit that comes in.
use Rattle.mask.proofs.Laws.Carries.{shifted_word}
use Rattle.mask.proofs.sums.fn.shift.step.Goals as goal

pub returns : goal.returns
returns c = λ b e. shifted_word 0 c.ranges.x.fits b e
