-- `or`: word by word, as `or_words` has it.
use mathlib.Core.Path.{refl}
use Rattle.rule_letters.specs.Classes.{bytes_of, words_of}
use Rattle.rule_letters.proofs.Laws.Classes.{or_value}
use native.Mathlib.Omega.{arith}
use Rattle.rule_letters.proofs.classes.Class.or.Goals as goal

pub returns : goal.returns
unfolding bytes_of
returns c =
    let s = c.args in
    or_value (words_of s.self) (words_of s.other) refl refl
    (omega arith, (omega arith, (omega arith, (omega arith, tt))))
    (omega arith, (omega arith, (omega arith, (omega arith, tt))))
