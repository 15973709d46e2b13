-- THE THREE WRITINGS OF A CLASS: its one byte; and of any other class `.` or its runs. A class below 2 ^ 256 is known by its bits, and a power of two has one.
use mathlib.Core.Path.{◌≡◌, refl, sym, ap, ◌∙◌, subst}
use mathlib.Core.Logic.{⊎_elim}
use mathlib.Core.Bool.{Bool, true, false, cond, true≢false}
use mathlib.Core.List.{List, [], ◌∷◌, ◌++◌}
use Prim.Native.Nat.{ℕ, zero, suc, ◌+◌, ◌^◌, ◌≤◌, ◌<◌}
use native.Mathlib.Nat.{eq-or-lt_of_le}
use native.Mathlib.Omega.{arith}
use borrow.Author.Tests.{eq-eqb, eqb-true, ne_eqb}
use lib.Dec.{eqb}
use lib.Pow.{pow-lt}
use Rattle.model.specs.Bits.{bit}
use Rattle.model.specs.Bytes.{byte, bytes}
use Rattle.model.specs.Grammar.{dot_class}
use Rattle.model.specs.Writing.{byte_writing, class_writing, outside, sole}
use Rattle.model.proofs.Laws.Bool.{le_false, le_or_lt, le_true}
use Rattle.model.proofs.Reading.ClassWritten.{chosen}
use Rattle.model.proofs.Words.Bits.{bit_ext}
use Rattle.model.proofs.Words.Put.{bit_power}
use Rattle.writing_letters.proofs.Laws.Runs.{All}

-- ---- a class of one byte
pub one_byte : (c b : ℕ) → c < 2 ^ 256 → b < 256 → All false c 0 b → bit c b ≡ true → All false c (b + 1) 256 → c ≡ 2 ^ b
one_byte c b s h A t B = bit_ext 256 c (2 ^ b) s (pow-lt h) (λ i k. same i k ∙ sym (bit_power b i))
  where
    same : (i : ℕ) → i < 256 → bit c i ≡ eqb i b
    same i k =
        ⊎_elim
        (λ l. ⊎_elim (λ e. rw (← e, eq-eqb b b refl) t) (λ m. B i (omega arith) k ∙ sym (ne_eqb i b (λ e. omega arith))) (eq-or-lt_of_le l))
        (λ l. A i (omega arith) l ∙ sym (ne_eqb i b (λ e. omega arith)))
        (le_or_lt b i)

-- it has no or several bytes
abbrev pub NotOne : ℕ → Type 0
NotOne c = (b : ℕ) → b < 256 → c ≡ 2 ^ b → ⊥

power_of : (c b x : ℕ) → c ≡ 2 ^ b → bit c x ≡ true → x ≡ b
power_of c b x e t = eqb-true x b (sym (bit_power b x) ∙ ap (λ (n : ℕ). bit n x) (sym e) ∙ t)

pub two_bytes : (c x y : ℕ) → x < y → bit c x ≡ true → bit c y ≡ true → NotOne c
two_bytes c x y h s t b k e = omega (arith, power_of c b x e s, power_of c b y e t)

pub no_byte : (c : ℕ) → All false c 0 256 → NotOne c
no_byte c A b h e = true≢false (sym (ap (λ (n : ℕ). bit n b) e ∙ bit_power b b ∙ eq-eqb b b refl) ∙ A b (omega arith) h)

-- ---- the only byte, as it is looked for
sole_one : (n c b x : ℕ) → n + b ≡ 256 → b ≤ x → x < 256 → c ≡ 2 ^ x → sole n c b ≡ x
sole_one zero c b x d h k e = absurd (omega arith)
sole_one (suc n) c b x d h k e =
    ⊎_elim
    (λ p. rw (eq-eqb c (2 ^ b) (e ∙ ap (λ (y : ℕ). 2 ^ y) (sym p))) p)
    (λ l. rw (ne_eqb c (2 ^ b) (λ f. omega (arith, pow-lt l))) (sole_one n c (suc b) x (omega arith) l k e))
    (eq-or-lt_of_le h)

sole_none : (n c b : ℕ) → n + b ≡ 256 → NotOne c → sole n c b ≡ 256
sole_none zero c b d N = refl
sole_none (suc n) c b d N = rw (ne_eqb c (2 ^ b) (N b (omega arith))) (sole_none n c (suc b) (omega arith) N)

-- ---- THE THREE WRITINGS, over the byte that was found, whether the class is the dot's, and the runs
chosen_one : (b : ℕ) (dot : Bool) (runs : List ℕ) → b < 256 → chosen b dot runs ≡ byte_writing b
chosen_one b dot runs h = rw (le_true (suc b) 256 h)

chosen_other : (b : ℕ) (dot : Bool) (runs : List ℕ) → b ≡ 256 → chosen b dot runs ≡ cond dot (bytes ".") ((byte "[" ∷ runs) ++ (byte "]" ∷ []))
chosen_other b dot runs e = rw (le_false (suc b) 256 (omega arith))

module _ (c : ℕ) where
  pub one_written : (b : ℕ) → b < 256 → c ≡ 2 ^ b → class_writing c ≡ byte_writing b
  one_written b h e =
      let s : sole 256 c 0 ≡ b = sole_one 256 c 0 b refl (omega arith) h e in
      chosen_one (sole 256 c 0) (eqb c dot_class) (outside 256 c 0) (subst (λ (x : ℕ). x < 256) (sym s) h) ∙ ap byte_writing s

  pub other_written : NotOne c → (dot : Bool) → eqb c dot_class ≡ dot
      → class_writing c ≡ cond dot (bytes ".") ((byte "[" ∷ outside 256 c 0) ++ (byte "]" ∷ []))
  other_written N dot e =
      ap (λ (d : Bool). chosen (sole 256 c 0) d (outside 256 c 0)) e ∙ chosen_other (sole 256 c 0) dot (outside 256 c 0) (sole_none 256 c 0 refl N)
