-- `can_be_left_out`: a plain sign tells it alone, and one with numbers leaves all to the lower one.
use mathlib.Core.Path.{sym, ap, ◌∙◌}
use mathlib.Core.Bool.{Bool}
use Prim.Native.Nat.{ℕ}
use Rattle.model.specs.Edges.{seq_empty}
use Rattle.model.specs.Grammar.{repeated}
use Rattle.rule_signs.specs.Answers.{sign_of}
use Rattle.rule_signs.specs.declared.HowOften.{HowOften}
use Rattle.model.proofs.Image.Groups.{empty_times}
use Rattle.rule.proofs.readers.can_be_left_out.Goals as goal

abbrev empty : ℕ → HowOften → Bool
empty class r = seq_empty (repeated class (sign_of r))

pub returns-in-Times : goal.returns-in-Times
returns-in-Times c class = sym (empty_times class c.in-Times.x c.in-Times.field-1) ∙ sym (ap (empty class) c.in-Times.is)
