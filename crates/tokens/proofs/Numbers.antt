-- KINDS: each number is read as one token, and what is past the kinds as the close of a group with `*`; so a token's kind is read as the token
-- without its class, and is the kind in a word that has it.
use mathlib.Core.Path.{◌≡◌, refl}
use Prim.Native.Nat.{ℕ, zero, suc}
use Rattle.model.specs.Models.Tokens.{a_bar, a_close, a_letter, an_open, Token}
use Rattle.model.specs.Tree.{once, option, optional, plus, star, starred, unmarked}
use Rattle.tokens.specs.Kinds.{kind_in, kind_of, read_kind}
use Rattle.tokens.specs.Tokens.{bare, token_of}
use Rattle.tokens.specs.declared.token.Mark.TheVariants.{Starred}
use Rattle.tokens.specs.declared.token.Token.TheVariants.{Close}

pub read_close : (k : ℕ) → (k ≡ 0 → ⊥) → (k ≡ 1 → ⊥) → (k ≡ 2 → ⊥) → (k ≡ 3 → ⊥) → (k ≡ 4 → ⊥) → (k ≡ 5 → ⊥) → (k ≡ 6 → ⊥) → (k ≡ 7 → ⊥)
    → Close Starred ≡ read_kind k
read_close zero a b c d e f g h = absurd (a refl)
read_close (suc zero) a b c d e f g h = absurd (b refl)
read_close (suc (suc zero)) a b c d e f g h = absurd (c refl)
read_close (suc (suc (suc zero))) a b c d e f g h = absurd (d refl)
read_close (suc (suc (suc (suc zero)))) a b c d e f g h = absurd (e refl)
read_close (suc (suc (suc (suc (suc zero))))) a b c d e f g h = absurd (f refl)
read_close (suc (suc (suc (suc (suc (suc zero)))))) a b c d e f g h = absurd (g refl)
read_close (suc (suc (suc (suc (suc (suc (suc zero))))))) a b c d e f g h = absurd (h refl)
read_close (suc (suc (suc (suc (suc (suc (suc (suc k)))))))) a b c d e f g h = refl

pub read-kind : (y : Token) → token_of (read_kind (kind_of y)) ≡ bare y
read-kind (a_letter c once) = refl
read-kind (a_letter c option) = refl
read-kind (a_letter c star) = refl
read-kind (a_letter c plus) = refl
read-kind an_open = refl
read-kind a_bar = refl
read-kind (a_close unmarked) = refl
read-kind (a_close optional) = refl
read-kind (a_close starred) = refl

pub kind_small : (y : Token) → kind_in (kind_of y) ≡ kind_of y
kind_small (a_letter c once) = refl
kind_small (a_letter c option) = refl
kind_small (a_letter c star) = refl
kind_small (a_letter c plus) = refl
kind_small an_open = refl
kind_small a_bar = refl
kind_small (a_close unmarked) = refl
kind_small (a_close optional) = refl
kind_small (a_close starred) = refl
