-- `one`: the span of a byte alone is its bit.
use mathlib.Core.Path.{◌∙◌}
use Rattle.rule_letters.proofs.Laws.Classes.{span_one}
use Rattle.rule_letters.proofs.classes.Class.one.Goals as goal

pub returns : goal.returns
returns c = c.span.ensures ∙ span_one c.args.b c.ranges.b.fits
