-- THE CLASS OF A TOKEN IN A ROW: byte b is in the class of token i if bit b mod 64 of its word 1 + b / 64 is set.
use mathlib.Core.Path.{◌≡◌, sym, ap, ◌∙◌}
use mathlib.Core.List.{List}
use Prim.Native.Nat.{ℕ, suc, ◌+◌, ◌*◌, ◌/◌, ◌%◌, ◌^◌, ◌<◌}
use native.Mathlib.Nat.{le_refl}
use native.Mathlib.Omega.{arith}
use lib.ListN.{get_or, length, take}
use lib.Pow.{pow_pos}
use Rattle.model.specs.Bits.{bit}
use Rattle.model.specs.Image.{words}
use Rattle.model.specs.Models.LayOut.{set}
use Rattle.model.specs.Models.Tokens.{a_bar, a_close, a_letter, an_open, class_of, Token}
use Rattle.model.proofs.Image.Classes.{AllFine, class_is, Fine, fine_at}
use Rattle.model.proofs.Words.Holds.{set_holds}
use Rattle.model.proofs.Words.RowBits.{row_bit}
use Rattle.tokens.specs.Rows.{row_words}
use Rattle.tokens.proofs.Rows.{word_at}
use Rattle.image.specs.Work.{in_class}

-- ---- a class of bytes is its four words
class_word : (c b : ℕ) → c < 2 ^ 256 → b < 256 → bit (get_or (words 4 c) (b / 64) 0) (b % 64) ≡ bit c b
class_word c b small h =
    let H = set_holds 256 4 (bit c) (le_refl 256) in
    ap (λ (n : ℕ). bit (get_or (words 4 n) (b / 64) 0) (b % 64)) (sym (class_is c small))
    ∙ sym (row_bit (set 256 4 (bit c)) b H.near.fit) ∙ H.near.bits b h

class_small : (y : Token) → Fine y → class_of y < 2 ^ 256
class_small (a_letter c r) f = f.bytes_only
class_small an_open f = pow_pos 256
class_small a_bar f = pow_pos 256
class_small (a_close m) f = pow_pos 256

-- ---- a row that begins with the words of the tokens l
module _ (l : List Token) (row : List ℕ) (n : ℕ) (long : n ≡ length l) (are : take (5 * n) row ≡ row_words l) where
  pub in-class : (i b : ℕ) → i < length l → b < 256 → AllFine l → in_class row b i ≡ bit (class_of (get_or l i a_bar)) b
  in-class i b h k f =
      let e : 5 * i + 1 + b / 64 ≡ 5 * i + suc (b / 64) = omega arith in
      ap (λ (p : ℕ). bit (get_or row p 0) (b % 64)) e
      ∙ ap (λ (w : ℕ). bit w (b % 64)) (word_at l row n long are i (suc (b / 64)) h (omega arith))
      ∙ class_word (class_of (get_or l i a_bar)) b (class_small (get_or l i a_bar) (fine_at l i f)) k
