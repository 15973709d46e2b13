-- A ROW OF TOKENS WITH THEIR CLASSES, as words: five for each token, its kind and the four words of its class.
use Rattle.std.specs.Prelude.{List, ◌∷◌, ℕ}
use Rattle.model.specs.Image.{words}
use Rattle.model.specs.Lists.{each}
use Rattle.model.specs.Models.Tokens.{class_of, Token}
use Rattle.tokens.specs.Kinds.{kind_of}

-- the words of one token, and of a row of them
abbrev pub token_words : Token → List ℕ
token_words y = kind_of y ∷ words 4 (class_of y)

abbrev pub row_words : List Token → List ℕ
row_words = each token_words
