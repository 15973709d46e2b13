-- THE NUMBERS IN A SIGN'S BRACES have at most three digits, so they are at most 999.
use mathlib.Core.List.{List}
use Prim.Native.Nat.{ℕ, ◌≤◌}
use native.Mathlib.Omega.{arith}
use lib.ListN.{drop}
use Rattle.model.specs.Bytes.{digit}
use Rattle.model.specs.Grammar.{absent, asterisk, both, braces, cross, IsBounds, IsNumber, IsSign, one, question, same, Sign, three, two, upto}
use Rattle.model.specs.Models.Reader.{read_sign}
use Rattle.model.proofs.Reading.Answers.{Holds, sound_holds}
use Rattle.model.proofs.Reading.Signs.{sound_sign}
use Rattle.rule_bytes.specs.Places.{Took}
use Rattle.rule_bytes.proofs.Laws.Progress.{told}
use Rattle.rule_signs.specs.Repeats.{Bounded}

number_small : {w : List ℕ} {n : ℕ} → IsNumber w n → n ≤ 999
number_small (one p (digit q h)) = omega arith
number_small (two p q k (digit a b) (digit c d)) = omega arith
number_small (three p q k (digit a b) (digit c d) (digit e f)) = omega arith

bounds_small : {w : List ℕ} {x y : ℕ} → IsBounds w x y → y ≤ 999
bounds_small (both p a b) = number_small b
bounds_small (same p a) = omega (arith, number_small a)
bounds_small (upto p q b) = number_small b

bounded : {w : List ℕ} {q : Sign} → IsSign w q → Bounded q
bounded (absent p q) = rw q tt
bounded (question p q) = rw q tt
bounded (asterisk p q) = rw q tt
bounded (cross p q) = rw q tt
bounded (braces p q h k b) = rw q (h, k, bounds_small b)

sign_holds : (l : List ℕ) → Holds (λ q r. Bounded q) (read_sign l)
sign_holds l = sound_holds (λ q r. Bounded q) (sound_sign l) (λ u q r e d. bounded d)

pub sign_bounded : (rule : List ℕ) (at : ℕ) {p : ℕ} {q : Sign} → Took rule (read_sign (drop at rule)) q p → Bounded q
sign_bounded rule at t = told rule t (λ q r. Bounded q) (sign_holds (drop at rule))
