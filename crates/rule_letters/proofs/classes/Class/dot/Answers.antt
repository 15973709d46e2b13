-- `dot`: four words, full but for bit 10, are the mask of every byte but 10.
use mathlib.Core.Path.{refl}
use Rattle.rule_letters.specs.Classes.{bytes_of}
use Rattle.rule_letters.proofs.classes.Class.dot.Goals as goal

pub returns : goal.returns
unfolding bytes_of
returns c = refl
