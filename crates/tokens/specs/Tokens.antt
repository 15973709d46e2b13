-- TOKENS OF A TAPE: what the code's tokens stand for in the model.
use Rattle.model.specs.Models.Tokens.{a_bar, a_close, a_letter, an_open}
use Rattle.model.specs.Models.Tokens as model
use Rattle.model.specs.Tree.{once, option, optional, plus, star, starred, unmarked}
use Rattle.model.specs.Tree as tree
use Rattle.tokens.specs.declared.token.Mark.{Mark}
use Rattle.tokens.specs.declared.token.Mark.TheVariants.{Optional, Starred, Unmarked}
use Rattle.tokens.specs.declared.token.Repeat.{Repeat}
use Rattle.tokens.specs.declared.token.Repeat.TheVariants.{Once, Option, Plus, Star}
use Rattle.tokens.specs.declared.token.Token.{Token}
use Rattle.tokens.specs.declared.token.Token.TheVariants.{Bar, Close, Letter, Open}

abbrev pub repeat_of : Repeat → tree.Repeat
repeat_of Once = once
repeat_of Option = option
repeat_of Star = star
repeat_of Plus = plus

abbrev pub mark_of : Mark → tree.Mark
mark_of Unmarked = unmarked
mark_of Optional = optional
mark_of Starred = starred

-- a tape has no classes: its letters have the class 0
abbrev pub token_of : Token → model.Token
token_of (Letter r) = a_letter 0 (repeat_of r)
token_of Open = an_open
token_of Bar = a_bar
token_of (Close m) = a_close (mark_of m)

-- the token without its class
abbrev pub bare : model.Token → model.Token
bare (a_letter c r) = a_letter 0 r
bare an_open = an_open
bare a_bar = a_bar
bare (a_close m) = a_close m
