-- KINDS: the number that stands for a token, on a tape and as the first of its words in a row; and the token that a number stands for.
use Rattle.std.specs.Prelude.{ℕ, zero, suc, min}
use Rattle.model.specs.Models.Tokens.{a_bar, a_close, a_letter, an_open}
use Rattle.model.specs.Models.Tokens as model
use Rattle.model.specs.Tree.{once, option, optional, plus, star, starred, unmarked}
use Rattle.model.specs.Tree as tree
use Rattle.tokens.specs.declared.token.Mark.TheVariants.{Optional, Starred, Unmarked}
use Rattle.tokens.specs.declared.token.Repeat.TheVariants.{Once, Option, Plus, Star}
use Rattle.tokens.specs.declared.token.Token.{Token}
use Rattle.tokens.specs.declared.token.Token.TheVariants.{Bar, Close, Letter, Open}

-- a letter's, by how often it is taken
abbrev pub repeat_kind : tree.Repeat → ℕ
repeat_kind once = 0
repeat_kind option = 1
repeat_kind star = 2
repeat_kind plus = 3

abbrev pub open_kind : ℕ
open_kind = 4

abbrev pub bar_kind : ℕ
bar_kind = 5

-- a close's, by what it shows
abbrev pub mark_kind : tree.Mark → ℕ
mark_kind unmarked = 6
mark_kind optional = 7
mark_kind starred = 8

abbrev pub kind_of : model.Token → ℕ
kind_of (a_letter c r) = repeat_kind r
kind_of an_open = open_kind
kind_of a_bar = bar_kind
kind_of (a_close m) = mark_kind m

-- and back: any number is read, one that is no kind as the close of a group with `*`
abbrev pub read_kind : ℕ → Token
read_kind zero = Letter Once
read_kind (suc zero) = Letter Option
read_kind (suc (suc zero)) = Letter Star
read_kind (suc (suc (suc zero))) = Letter Plus
read_kind (suc (suc (suc (suc zero)))) = Open
read_kind (suc (suc (suc (suc (suc zero))))) = Bar
read_kind (suc (suc (suc (suc (suc (suc zero)))))) = Close Unmarked
read_kind (suc (suc (suc (suc (suc (suc (suc zero))))))) = Close Optional
read_kind (suc (suc (suc (suc (suc (suc (suc (suc k)))))))) = Close Starred

-- the kind as which a word is read
abbrev pub kind_in : ℕ → ℕ
kind_in word = min word (mark_kind starred)
