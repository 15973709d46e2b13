-- THE REPEATS COMPARED: part b is the byte's mask of the letters at the loops' places, of which word j is made of word j of both.
use mathlib.Core.Path.{◌≡◌, refl, sym, ap, ◌∙◌}
use mathlib.Core.Bool.{true, false}
use mathlib.Core.List.{List}
use Prim.Native.Nat.{ℕ, ◌+◌, ◌*◌, ◌≤◌, ◌<◌}
use native.Mathlib.Omega.{arith}
use lib.Bits.{bit_and}
use lib.ListN.{get_or, length}
use Rattle.model.specs.Models.Words.{and_words}
use Rattle.mask.proofs.Laws.Each.{each-word}
use Rattle.mask.proofs.Laws.Same.{same_false, same_true}
use Rattle.model.proofs.Image.Address.{part_fits}
use Rattle.model.proofs.Words.Operations.{each_first}
use Rattle.image_sections.specs.Sections.{Within}
use Rattle.image_sections.specs.declared.Sections.{Sections}
use Rattle.image_sections.proofs.Laws.Within.{scatters_in}
use Rattle.image_apart.specs.Work.{words_at}
use Rattle.image_check.specs.Work.{same_repeat}
use Rattle.image_check.proofs.Laws.Compare.{length_there, same_none, SameTo, word_there, words_alike}

-- the byte's mask of the letters at the loops' places
abbrev pub looped_row : List ℕ → (letters W : ℕ) → List ℕ → ℕ → List ℕ
looped_row ws letters W loops b = and_words (words_at ws (letters + W * b) W) loops

-- of one byte, word by word
module _ (ws loops : List ℕ) {p : Sections} (I : Within p (length ws)) (eight : length loops ≡ 8) {b : ℕ} (h : b < 256) where
  abbrev letters : ℕ
  letters = p.letters + p.width * b

  abbrev repeats : ℕ
  repeats = p.repeats + p.width * b

  letters_fit : letters + p.width ≤ length ws
  letters_fit = omega (arith, part_fits p.width h, I.letters, I.repeats, scatters_in I)

  repeats_fit : repeats + p.width ≤ length ws
  repeats_fit = omega (arith, part_fits p.width h, I.repeats, scatters_in I)

  looped_long : length (looped_row ws p.letters p.width loops b) ≡ p.width
  looped_long =
      let e = length_there ws letters p.width letters_fit in
      each_first bit_and (words_at ws letters p.width) loops (omega (arith, I.narrow)) ∙ e

  looped_word : (j : ℕ) → j < p.width → get_or (looped_row ws p.letters p.width loops b) j 0 ≡ bit_and (get_or ws (letters + j) 0) (get_or loops j 0)
  looped_word j l =
      let e = length_there ws letters p.width letters_fit in
      each-word bit_and (words_at ws letters p.width) loops j (omega arith) (omega (arith, I.narrow))
      ∙ ap (λ (x : ℕ). bit_and x (get_or loops j 0)) (word_there ws letters p.width j l)

  pub repeat_same : ((j : ℕ) → j < p.width → get_or ws (repeats + j) 0 ≡ bit_and (get_or ws (letters + j) 0) (get_or loops j 0))
      → true ≡ same_repeat ws p loops b
  repeat_same same =
      sym
      (same_true (words_at ws repeats p.width) (looped_row ws p.letters p.width loops b)
      (words_alike ws repeats p.width (looped_row ws p.letters p.width loops b) repeats_fit looped_long (λ j l. same j l ∙ sym (looped_word j l))))

  pub repeat_differs : (j : ℕ) → j < p.width → (get_or ws (repeats + j) 0 ≡ bit_and (get_or ws (letters + j) 0) (get_or loops j 0) → ⊥)
      → false ≡ same_repeat ws p loops b
  repeat_differs j l differs =
      sym
      (same_false (words_at ws repeats p.width) (looped_row ws p.letters p.width loops b)
      (λ e. differs (sym (word_there ws repeats p.width j l) ∙ ap (λ (us : List ℕ). get_or us j 0) e ∙ looped_word j l)))

-- of all bytes
pub repeats_none : (ws : List ℕ) {p : Sections} (loops : List ℕ) → Within p (length ws) → length loops ≡ 8
    → SameTo ws p.repeats (p.width * 256) p.width 256 (looped_row ws p.letters p.width loops) 0
repeats_none ws {p} loops I e = same_none refl (λ b h. looped_long ws loops I e h) (omega (arith, I.repeats, scatters_in I))
