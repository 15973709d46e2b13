-- HOW LONG A CLASS'S WRITING IS: a run takes at least one of the 256 bytes, and nine bytes at most to write.
use mathlib.Core.Bool.{Bool}
use mathlib.Core.List.{List, [], ◌∷◌, ◌++◌}
use Prim.Native.Nat.{ℕ, zero, suc, ◌+◌, ◌-◌, ◌*◌, ◌≤◌}
use native.Mathlib.Omega.{arith}
use lib.Dec.{eqb, ltb}
use lib.ListN.{length, length-append}
use Rattle.model.specs.Bits.{bit}
use Rattle.model.specs.Bytes.{byte}
use Rattle.model.specs.Grammar.{dot_class}
use Rattle.model.specs.Tree.{once, option, plus, Repeat, star}
use Rattle.model.specs.Writing.{class_writing, inside, outside, repeat_writing, run_writing, sole}
use Rattle.model.proofs.Laws.Bool.{cond_cases}
use Rattle.model.proofs.Reading.ClassWritten.{chosen}
use Rattle.writing_letters.proofs.Laws.Bytes.{byte_short, run_short}

mutual
  pub outside_short : (n c b : ℕ) → length (outside n c b) ≤ 9 * n
  outside_short zero c b = omega arith
  outside_short (suc n) c b =
      cond_cases (λ w. length w ≤ 9 * suc n) (bit c b) (λ t. omega (arith, inside_short n c (suc b) b))
      (λ t. omega (arith, outside_short n c (suc b)))

  inside_short : (n c b lo : ℕ) → length (inside n c b lo) ≤ 9 * n + 9
  inside_short zero c b lo = omega (arith, run_short lo 255)
  inside_short (suc n) c b lo =
      cond_cases (λ w. length w ≤ 9 * suc n + 9) (bit c b) (λ t. omega (arith, inside_short n c (suc b) lo))
      (λ t. omega (arith, length-append (run_writing lo (b - 1)) (outside n c (suc b)), run_short lo (b - 1), outside_short n c (suc b)))

pub class_short : (c : ℕ) → length (class_writing c) ≤ 2306
class_short c = choose (sole 256 c 0) (eqb c dot_class) (outside 256 c 0) (outside_short 256 c 0)
  where
    choose : (b : ℕ) (dot : Bool) (runs : List ℕ) → length runs ≤ 2304 → length (chosen b dot runs) ≤ 2306
    choose b dot runs h =
        cond_cases (λ w. length w ≤ 2306) (ltb b 256) (λ t. omega (arith, byte_short b)) (λ t.
        cond_cases (λ w. length w ≤ 2306) dot (λ e. omega arith) (λ e. omega (arith, length-append runs (byte "]" ∷ []))))

-- ---- and a letter's, with its sign
pub letter_short : (c : ℕ) (r : Repeat) → length (class_writing c ++ repeat_writing r) ≤ 2307
letter_short c r = omega (arith, length-append (class_writing c) (repeat_writing r), class_short c, sign_short r)
  where
    sign_short : (r : Repeat) → length (repeat_writing r) ≤ 1
    sign_short once = omega arith
    sign_short option = omega arith
    sign_short star = omega arith
    sign_short plus = omega arith
