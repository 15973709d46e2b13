-- `shift`: each word is moved up by one, and hands on its top bit; a row with itself made so is the model's.
use Rattle.std.proofs.Common.{false, take, sym, ◌∙◌}
use Rattle.mask.proofs.Laws.Ripple.{shift_ripple}
use Rattle.mask.proofs.sums.shift.Goals as goal

pub returns : goal.returns
returns c = c.ripple.ensures ∙ sym (shift_ripple (take c.args.n c.args.a.words) false)
