-- THE REPEATS FROM THE LETTERS: what is written after a row leaves it as it is, so its words can be read again, and those of the letters' section are the
-- bytes' masks.
use mathlib.Core.Path.{◌≡◌, refl, sym, ap, ap₂, ◌∙◌}
use mathlib.Core.List.{List, [], ◌∷◌, ◌++◌}
use Prim.Native.Nat.{ℕ, zero, suc, ◌+◌, ◌-◌, ◌*◌, ◌≤◌, ◌<◌}
use native.Mathlib.Omega.{arith}
use lib.Bits.{bit_and}
use lib.ListN.{drop, get_or, length, length-drop, set, take}
use lib.Seq.{drop-append-add, get_or-drop, get_or-set_other, get_or-take, length-take-le, sets, take-set-le}
use Rattle.model.specs.Image.{section}
use Rattle.model.specs.Models.Words.{and_words}
use Rattle.model.proofs.Image.Address.{part_of_part}
use Rattle.model.proofs.Image.Rows.{chunk_join, join_same}
use Rattle.model.proofs.Words.Operations.{each_at, each_length}
use Rattle.image.specs.Work.{both_part, both_row, letter_row, letters_part, repeat_row, repeats_part}
use Rattle.image.proofs.Laws.Lengths.{letter_long, letters_long}
use Rattle.image.proofs.Laws.Parts.{length_section}
use Rattle.image.proofs.Laws.Stores.{sets_between}

-- ---- words before those written
take_before : (l : List ℕ) (i n : ℕ) (vs : List ℕ) → n ≤ i → take n (sets l i vs) ≡ take n l
take_before l i n [] h = refl
take_before l i n (v ∷ vs) h = take_before (set l i v) (suc i) n vs (omega arith) ∙ take-set-le n l i v h

part_before : (l : List ℕ) (i p w : ℕ) (vs : List ℕ) → p + w ≤ i → take w (drop p (sets l i vs)) ≡ take w (drop p l)
part_before l i p w vs h =
    sym (part_of_part w p (p + w) (sets l i vs) (omega arith)) ∙ ap (λ (ws : List ℕ). take w (drop p ws)) (take_before l i (p + w) vs h)
    ∙ part_of_part w p (p + w) l (omega arith)

pub word_before : (l : List ℕ) (i k : ℕ) (vs : List ℕ) → k < i → get_or (sets l i vs) k 0 ≡ get_or l k 0
word_before l i k [] h = refl
word_before l i k (v ∷ vs) h = word_before (set l i v) (suc i) k vs (omega arith) ∙ get_or-set_other l i k v 0 (λ q. omega arith)

-- ---- a row and the loops
module _ (W : ℕ) (words : List ℕ) (from : ℕ) (loops : List ℕ) (narrow : W ≤ 8) (fits : from + W ≤ length words) (eight : length loops ≡ 8) where
  first_long : length (take W (drop from words)) ≡ W
  first_long = length-take-le W (drop from words) (omega (arith, length-drop from words))

  second_long : length (take W loops) ≡ W
  second_long = length-take-le W loops (omega arith)

  pub both_long : length (both_row W words from loops) ≡ W
  both_long = each_length bit_and (take W (drop from words)) (take W loops) (first_long ∙ sym second_long) ∙ first_long

  pub both_word : (j : ℕ) → j < W → bit_and (get_or words (from + j) 0) (get_or loops j 0) ≡ get_or (both_row W words from loops) j 0
  both_word j h =
      ap₂ bit_and (sym (get_or-take W (drop from words) j 0 h ∙ get_or-drop from words j 0)) (sym (get_or-take W loops j 0 h))
      ∙ each_at bit_and (take W (drop from words)) (take W loops) j (first_long ∙ sym second_long) (omega (arith, first_long))

pub both_kept : (W : ℕ) (l : List ℕ) (i : ℕ) (vs : List ℕ) (from : ℕ) (loops : List ℕ) → from + W ≤ i
    → both_row W (sets l i vs) from loops ≡ both_row W l from loops
both_kept W l i vs from loops h = ap (λ (ws : List ℕ). and_words ws (take W loops)) (part_before l i from W vs h)

-- ---- THE REPEATS' SECTION
and_take : (n : ℕ) (xs ys : List ℕ) → and_words (take n xs) (take n ys) ≡ take n (and_words xs ys)
and_take zero xs ys = refl
and_take (suc n) [] ys = refl
and_take (suc n) (x ∷ xs) [] = refl
and_take (suc n) (x ∷ xs) (y ∷ ys) = ap (λ (ws : List ℕ). bit_and x y ∷ ws) (and_take n xs ys)

module _ (W : ℕ) (row : List ℕ) (n : ℕ) (narrow : W ≤ 8) (l : List ℕ) (i : ℕ) (some : 1 ≤ i) (fits : i + W * 256 ≤ length l) where
  abbrev lettered : List ℕ
  lettered = sets l (i - 1) (letters_part W row n)

  letters_read : (b : ℕ) → b < 256 → take W (drop (i + W * b) lettered) ≡ take W (letter_row row n b)
  letters_read b h =
      let long = length_section W 256 (λ b. take W (letter_row row n b)) (letters_long row n narrow) in
      let rest = drop (i - 1 + length (letters_part W row n)) l in
      let before = take (i - 1) l in
      let at : length before ≡ i - 1 = length-take-le (i - 1) l (omega arith) in
      let e : i + W * b ≡ length before + suc (W * b) = omega arith in
      ap₂ (λ (k : ℕ) (ws : List ℕ). take W (drop k ws)) e (sets_between l (i - 1) (letters_part W row n) (omega arith))
      ∙ ap (take W) (drop-append-add before (letters_part W row n ++ rest) (suc (W * b)))
      ∙ chunk_join W (λ b. take W (letter_row row n b)) (letter_long row n narrow) 256 b rest h

  pub repeats_are : (loops : List ℕ) → both_part W lettered i loops ≡ repeats_part W row n loops
  repeats_are loops =
      ap section
      (join_same 256 0 (λ b. both_row W lettered (i + W * b) loops) (λ b. take W (repeat_row row n loops b))
      (λ b h. ap (λ (ws : List ℕ). and_words ws (take W loops)) (letters_read b (omega arith)) ∙ and_take W (letter_row row n b) loops))
