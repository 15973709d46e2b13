-- THE WORDS OF A TOKEN IN A ROW: a row of n tokens is 5 n words, and token i has the five from 5 i on, its kind first and then its class.
use mathlib.Core.Path.{◌≡◌, refl, sym, ap, ◌∙◌}
use mathlib.Core.List.{List, [], ◌∷◌, ◌++◌}
use Prim.Native.Nat.{ℕ, zero, suc, ◌+◌, ◌*◌, ◌<◌}
use native.Mathlib.Nat.{le_of_suc-le-suc, not-suc-le-zero}
use native.Mathlib.Omega.{arith}
use lib.ListN.{get_or-append, get_or, length, take}
use lib.Seq.{get_or-append-add, get_or-take}
use Rattle.model.specs.Models.Tokens.{a_bar, Token}
use Rattle.model.proofs.Laws.Each.{each_app}
use Rattle.tokens.specs.Kinds.{kind_of}
use Rattle.tokens.specs.Rows.{row_words, token_words}

pub row_append : (a b : List Token) → row_words (a ++ b) ≡ row_words a ++ row_words b
row_append a b = each_app token_words a b

pub row_length : (a : List Token) → length (row_words a) ≡ 5 * length a
row_length [] = refl
row_length (y ∷ a) = omega (arith, row_length a)

word_of : (l : List Token) (i j : ℕ) → i < length l → j < 5 → get_or (row_words l) (5 * i + j) 0 ≡ get_or (token_words (get_or l i a_bar)) j 0
word_of [] i j h k = absurd (not-suc-le-zero h)
word_of (y ∷ ys) zero j h k =
    let e : 5 * 0 + j ≡ j = omega arith in
    ap (λ (p : ℕ). get_or (row_words (y ∷ ys)) p 0) e ∙ get_or-append (token_words y) (row_words ys) 0 j k
word_of (y ∷ ys) (suc i) j h k =
    let e : 5 * suc i + j ≡ 5 + (5 * i + j) = omega arith in
    ap (λ (p : ℕ). get_or (row_words (y ∷ ys)) p 0) e ∙ get_or-append-add (token_words y) (row_words ys) (5 * i + j) 0
    ∙ word_of ys i j (le_of_suc-le-suc h) k

-- ---- a row that begins with the words of the tokens l
module _ (l : List Token) (row : List ℕ) (n : ℕ) (long : n ≡ length l) (are : take (5 * n) row ≡ row_words l) where
  pub word_at : (i j : ℕ) → i < length l → j < 5 → get_or row (5 * i + j) 0 ≡ get_or (token_words (get_or l i a_bar)) j 0
  word_at i j h k =
      let m : 5 * i + j < 5 * n = omega arith in
      sym (get_or-take (5 * n) row (5 * i + j) 0 m) ∙ ap (λ (ws : List ℕ). get_or ws (5 * i + j) 0) are ∙ word_of l i j h k

  pub kind-at : (i : ℕ) → i < length l → get_or row (5 * i) 0 ≡ kind_of (get_or l i a_bar)
  kind-at i h = let e : 5 * i ≡ 5 * i + 0 = omega arith in ap (λ (p : ℕ). get_or row p 0) e ∙ word_at i 0 h (omega arith)
