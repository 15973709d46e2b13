-- WHAT THE WORDS OF A CLASS SAY OF ITS BYTES: what is left of a word from a byte on has the next byte in the class, or none of that word is; the words'
-- complements have the bytes that are not; and a class is the dot's if its words are.
use mathlib.Core.Path.{◌≡◌, refl, sym, ap, ap₂, ◌∙◌}
use mathlib.Core.Logic.{⊎_elim}
use mathlib.Core.Bool.{false, not, true≢false}
use mathlib.Core.List.{List, [], ◌∷◌}
use Prim.Native.Nat.{ℕ, ◌+◌, ◌-◌, ◌*◌, ◌/◌, ◌%◌, ◌^◌, ◌≤◌, ◌<◌}
use native.Mathlib.Nat.{le_refl}
use native.Mathlib.Omega.{arith}
use borrow.Author.Tests.{not-false, not-true}
use lib.Count.{count_trailing_zeros}
use lib.Dec.{eqb, eqb→eq}
use lib.ListN.{get_or, length}
use lib.Pointwise.{bytes_decides, pointwise}
use lib.Pow.{shr_le}
use Rattle.model.specs.Bits.{bit}
use Rattle.model.specs.Grammar.{dot_class}
use Rattle.model.specs.Models.Words.{Fit, not_words, value}
use Rattle.model.proofs.Image.SameBits.{rows_ext}
use Rattle.model.proofs.Laws.Bits.{bit_zero}
use Rattle.model.proofs.Laws.Bool.{is_true, le_or_lt, same_truth}
use Rattle.model.proofs.Words.Bits.{bit_high}
use Rattle.model.proofs.Words.Holds.{Near}
use Rattle.model.proofs.Words.Lowest.{Lowest, lowest_bit}
use Rattle.model.proofs.Words.Operations.{near_not}
use Rattle.model.proofs.Words.Put.{fit_at}
use Rattle.model.proofs.Words.RowBits.{row_bit, shifted}
use Rattle.writing_letters.specs.Runs.{FirstIn, FirstOut}
use Rattle.writing_letters.proofs.Laws.Runs.{All, all_then}

-- ---- what is left of a word from byte i on
module _ (ws : List ℕ) (i : ℕ) (f : Fit ws) where
  abbrev word : ℕ
  word = get_or ws (i / 64) 0

  abbrev rest : ℕ
  rest = word / 2 ^ (i % 64)

  rest_bit : (x : ℕ) → i ≤ x → x < 64 * (i / 64 + 1) → bit (value ws) x ≡ bit rest (x - i)
  rest_bit x h k =
      let q : x / 64 ≡ i / 64 = omega arith in
      let r : x % 64 ≡ i % 64 + (x - i) = omega arith in
      row_bit ws x f ∙ ap₂ (λ (a b : ℕ). bit (get_or ws a 0) b) q r ∙ sym (shifted word (i % 64) (x - i))

  pub rest_none : rest ≡ 0 → All false (value ws) i (64 * (i / 64 + 1))
  rest_none e x h k = rest_bit x h k ∙ ap (λ (n : ℕ). bit n (x - i)) e ∙ bit_zero (x - i)

  pub rest_first : (b : ℕ) → b ≤ i → i < 256 → All false (value ws) b i → (rest ≡ 0 → ⊥) → FirstIn (value ws) b (i + count_trailing_zeros 64 rest)
  rest_first b h l A n = record {
    from = omega arith;
    upto = omega (arith, near);
    skipped = all_then (value ws) b i (i + k) A (λ x p q. rest_bit x p (omega (arith, near)) ∙ found.below (x - i) (omega arith));
    hit = λ p. rest_bit (i + k) (omega arith) (omega (arith, near)) ∙ (let e : i + k - i ≡ k = omega arith in ap (bit rest) e) ∙ found.here;
  }
    where
      k : ℕ
      k = count_trailing_zeros 64 rest

      found : Lowest rest k
      found = (lowest_bit 64 rest (omega arith) (omega (arith, shr_le word (i % 64), fit_at ws (i / 64) f))).1

      near : i % 64 + k < 64
      near =
          ⊎_elim (λ p. absurd (true≢false (sym found.here ∙ shifted word (i % 64) k ∙ bit_high 64 word (i % 64 + k) (fit_at ws (i / 64) f) p))) (λ p. p)
          (le_or_lt 64 (i % 64 + k))

-- ---- four words
pub each_of : (ws : List ℕ) → length ws ≡ 4 → ws ≡ get_or ws 0 0 ∷ get_or ws 1 0 ∷ get_or ws 2 0 ∷ get_or ws 3 0 ∷ []
each_of [] h = absurd (omega arith)
each_of (a ∷ []) h = absurd (omega arith)
each_of (a ∷ b ∷ []) h = absurd (omega arith)
each_of (a ∷ b ∷ c ∷ []) h = absurd (omega arith)
each_of (a ∷ b ∷ c ∷ d ∷ []) h = refl
each_of (a ∷ b ∷ c ∷ d ∷ e ∷ ws) h = absurd (omega arith)

pub first_not : (ws : List ℕ) → length ws ≡ 4 → Fit ws → (b r : ℕ) → FirstIn (value (not_words ws)) b r → FirstOut (value ws) b r
first_not ws four f b r F = record {
  from = F.from;
  upto = F.upto;
  skipped = λ x h k. not-false (bit (value ws) x) (sym (turned x (omega (arith, F.upto))) ∙ F.skipped x h k);
  hit = λ h. not-true (bit (value ws) r) (sym (turned r h) ∙ F.hit h);
}
  where
    turned : (x : ℕ) → x < 256 → bit (value (not_words ws)) x ≡ not (bit (value ws) x)
    turned = let n : Near 256 4 ws (bit (value ws)) = record { len = four; fit = f; bits = λ x h. refl } in (near_not (le_refl 256) n).bits

-- ---- the dot's: full but for bit 10
abbrev pub dot_words : List ℕ
dot_words = 0xffff_ffff_ffff_fbff ∷ 0xffff_ffff_ffff_ffff ∷ 0xffff_ffff_ffff_ffff ∷ 0xffff_ffff_ffff_ffff ∷ []

pub same_dot : (ws : List ℕ) → length ws ≡ 4 → Fit ws → pointwise eqb ws dot_words ≡ eqb (value ws) dot_class
same_dot ws four f =
    let decides = bytes_decides ws dot_words in
    same_truth (pointwise eqb ws dot_words) (eqb (value ws) dot_class) (λ t. rw (decides.0 (is_true (pointwise eqb ws dot_words) t)) tt)
    (λ t. rw (decides.1 (rows_ext ws dot_words four f fits (λ i. ap (λ (n : ℕ). bit n i) (eqb→eq (value ws) dot_class t)))) tt)
  where
    fits : Fit dot_words
    fits = (omega arith, (omega arith, (omega arith, (omega arith, tt))))
