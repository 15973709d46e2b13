-- HOW A BYTE AND A RUN ARE WRITTEN: two tests choose between three texts of a byte, one test between two of a run; none of them is long.
use mathlib.Core.Path.{◌≡◌}
use mathlib.Core.Logic.{◌⊎◌, inl, inr}
use mathlib.Core.Bool.{true, false, ◌&&◌, and-false}
use mathlib.Core.List.{[], ◌∷◌, ◌++◌}
use Prim.Native.Nat.{ℕ, ◌/◌, ◌%◌, ◌≤◌, ◌<◌}
use native.Mathlib.Omega.{arith}
use borrow.Author.Tests.{eq-eqb, ne_eqb}
use lib.Dec.{eqb, leb}
use lib.ListN.{length, length-append}
use Rattle.model.specs.Bytes.{byte, signs}
use Rattle.model.specs.Lists.{within}
use Rattle.model.specs.Writing.{byte_writing, hex_digit, run_writing}
use Rattle.model.proofs.Laws.Bool.{cond_cases, le_false, le_true}

module _ (b : ℕ) where
  pub sign_writing : within b (byte "-" ∷ signs) ≡ true → byte_writing b ≡ byte "\\" ∷ b ∷ []
  sign_writing e = rw e

  pub plain_writing : within b (byte "-" ∷ signs) ≡ false → 33 ≤ b → b ≤ 126 → byte_writing b ≡ b ∷ []
  plain_writing e h k = rw (e, le_true 33 b h, le_true b 126 k)

  pub number_writing : within b (byte "-" ∷ signs) ≡ false → (b < 33) ⊎ (126 < b)
      → byte_writing b ≡ byte "\\" ∷ byte "x" ∷ hex_digit (b / 16) ∷ hex_digit (b % 16) ∷ []
  number_writing e (inl h) = rw (e, le_false 33 b h)
  number_writing e (inr h) = rw (e, le_false b 126 h, and-false (leb 33 b))

-- ---- a run: of one byte, and of more
pub one_writing : (lo hi : ℕ) → lo ≡ hi → run_writing lo hi ≡ byte_writing lo
one_writing lo hi e = rw (eq-eqb lo hi e)

pub more_writing : (lo hi : ℕ) → (lo ≡ hi → ⊥) → run_writing lo hi ≡ byte_writing lo ++ (byte "-" ∷ byte_writing hi)
more_writing lo hi e = rw (ne_eqb lo hi e)

-- ---- their lengths
pub byte_short : (b : ℕ) → length (byte_writing b) ≤ 4
byte_short b =
    cond_cases (λ w. length w ≤ 4) (within b (byte "-" ∷ signs)) (λ t. omega arith)
    (λ t. cond_cases (λ w. length w ≤ 4) (leb 33 b && leb b 126) (λ k. omega arith) (λ k. omega arith))

pub run_short : (lo hi : ℕ) → length (run_writing lo hi) ≤ 9
run_short lo hi =
    cond_cases (λ w. length w ≤ 9) (eqb lo hi) (λ t. omega (arith, byte_short lo))
    (λ t. omega (arith, length-append (byte_writing lo) (byte "-" ∷ byte_writing hi), byte_short lo, byte_short hi))
