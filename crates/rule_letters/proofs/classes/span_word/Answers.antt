-- `span_word`: the bytes below lo are among those up to hi, and what is left of these is the span.
use native.Mathlib.Omega.{arith}
use Rattle.rule_letters.proofs.Laws.Classes.{span_difference}
use Rattle.rule_letters.proofs.classes.span_word.Goals as goal

pub overflow_sub-result : goal.overflow_sub-result
overflow_sub-result c = omega (arith, span_difference c.args.lo c.args.hi c.args.base c.requires.0)

pub returns : goal.returns
returns c = omega (arith, span_difference c.args.lo c.args.hi c.args.base c.requires.0)
