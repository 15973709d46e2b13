-- Sequences: one with an item; and nothing after a sequence leaves it as it is.
use mathlib.Core.Path.{◌≡◌, refl, ap}
use Rattle.model.specs.Tree.{end, glue, letter, Seq, union}

abbrev pub NonEmpty : Seq → Type 0
NonEmpty end = ⊥
NonEmpty (letter c r s) = Unit
NonEmpty (union m a s) = Unit

pub glue_end : (s : Seq) → glue s end ≡ s
glue_end end = refl
glue_end (letter c r s) = ap (letter c r) (glue_end s)
glue_end (union m a s) = ap (union m a) (glue_end s)
