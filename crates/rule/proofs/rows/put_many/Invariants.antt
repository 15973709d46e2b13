-- `put_many`: after some turns the token is written that many times, and counted as often as there is a number for it.
use mathlib.Core.Path.{◌≡◌}
use mathlib.Core.List.{◌∷◌}
use Prim.Native.Nat.{◌+◌, ◌*◌}
use lib.Seq.{sets}
use Rattle.rule_letters.specs.Classes.{words_of}
use Rattle.rule.specs.Tokens.{cut, times_words}
use Rattle.rule.proofs.rows.put_many.Given as goal

abbrev pub invariant-loop : goal.invariant-loop
invariant-loop l = (l.next ≡ cut (l.n + l.counter)) × (l.tokens ≡ sets l.initial.tokens (5 * l.n) (times_words l.counter (l.kind ∷ words_of l.class)))
