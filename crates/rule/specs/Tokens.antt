-- TOKENS AS THE READERS WRITE THEM, five words for each (crate tokens, specs/Rows): the rows of alternatives, what is done to a row of words, and what it is for
-- a row to stand in the buffer.
use Rattle.std.specs.Prelude.{◌≡◌, List, [], ◌∷◌, ◌++◌, ℕ, zero, suc, ◌+◌, ◌-◌, ◌*◌, ◌≤◌, min, drop, length, replicate, take}
use Rattle.std.proofs.lemmas.List.Edits.{sets}
use Rattle.model.specs.Models.Tokens.{a_bar, a_close, an_open, Token, tokens}
use Rattle.model.specs.Tree.{Alts, last, Mark, more}
use Rattle.tokens.specs.Rows.{row_words, token_words}

-- n times the same words
abbrev pub times_words : ℕ → List ℕ → List ℕ
times_words zero ws = []
times_words (suc n) ws = ws ++ times_words n ws

-- the tokens of alternatives without the open and the close of their union
abbrev pub between : Alts → List Token
between (last s) = tokens s []
between (more s a) = tokens s [] ++ (a_bar ∷ between a)

-- k tokens from token n on, written once more by tokens further on; what falls off the end is lost
abbrev pub copied : List ℕ → ℕ → ℕ → ℕ → List ℕ
copied l n k by = sets l (5 * (n + by)) (take (5 * k) (drop (5 * n) l))

-- k tokens from token n on moved on by one, and the words ws put where token n was; what falls off the end is lost
abbrev pub opened : List ℕ → ℕ → ℕ → List ℕ → List ℕ
opened l n k ws = sets l (5 * n) (ws ++ take (5 * k) (drop (5 * n) l))

-- the tokens n to k less 1 with a union's open before them, and behind them its close, which shows m
abbrev pub enclosed : List ℕ → ℕ → ℕ → Mark → List ℕ
enclosed l n k m = sets (opened l n (k - n) (token_words an_open)) (5 * (k + 1)) (token_words (a_close m))

-- room for the 511 tokens between 512 states: none yet, and those of a row
abbrev pub no_tokens : List ℕ
no_tokens = replicate 2555 0

abbrev pub room_with : List Token → List ℕ
room_with l = sets no_tokens 0 (row_words l)

-- the number of a token, as far as tokens are counted: past 511 there is no room for any
abbrev pub cut : ℕ → ℕ
cut n = min n 512

-- the numbers of two tokens, one not before the other, as they are counted
abbrev pub Numbered : ℕ → ℕ → Type 0
Numbered from to = (from ≤ to) × (to ≤ 512)

-- A ROW OF TOKENS STANDS IN THE BUFFER from token n on, as far as there is room, and `next` is the number of the token after it
pub record Stands (before after : List ℕ) (n next : ℕ) (row : List Token) : Type 0 where
  pub room : length before ≡ 2555
  pub count : next ≡ cut (n + length row)
  pub written : after ≡ sets before (5 * n) (row_words row)
