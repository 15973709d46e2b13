-- `none`: four words of 0 make 0.
use mathlib.Core.Path.{refl}
use Rattle.rule_letters.specs.Classes.{bytes_of}
use Rattle.rule_letters.proofs.classes.Class.none.Goals as goal

pub returns : goal.returns
unfolding bytes_of
returns c = refl
