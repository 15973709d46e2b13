-- TAKE APART: from any words to a row of tokens, by the sets that the words hold where an image would have them.
use Rattle.std.specs.Prelude.{Bool, true, false, not, ◌&&◌, ◌||◌, List, [], ◌∷◌, ℕ, zero, suc}
use Rattle.model.specs.Bits.{mask}
use Rattle.model.specs.Tree.{Mark, once, option, optional, plus, Repeat, star, starred, unmarked}
use Rattle.model.specs.Models.Sections.{back_in, bit_of, bit_of_three, bit_of_two, depth_word, gather_in, letters_in, propagate_in, repeats_in, scatter_in, state_word, width_word}
use Rattle.model.specs.Models.Tokens.{a_bar, a_close, a_letter, an_open, Token}

-- ---- the tokens that the sets show
-- some number below n passes the test
abbrev pub any_below : ℕ → (ℕ → Bool) → Bool
any_below zero p = false
any_below (suc n) p = p n || any_below n p

abbrev pub repeat_of : (skips loops : Bool) → Repeat
repeat_of true true = star
repeat_of true false = option
repeat_of false true = plus
repeat_of false false = once

abbrev pub mark_of : (skips returns : Bool) → Mark
mark_of s true = starred
mark_of true false = optional
mark_of false false = unmarked

-- anything odd is a bar: the comparison with what is laid out will tell
abbrev pub token_of : (is_letter : Bool) (class : ℕ) (skips loops closes opens returns : Bool) → Token
token_of true c s l k o b = a_letter c (repeat_of s l)
token_of false c s l true o b = a_close (mark_of s b)
token_of false c s l false true b = an_open
token_of false c s l false false b = a_bar

-- the token after state i: a letter if some letter mask has state i + 1, optional if a propagate edge enters that state, looping if some repeat
-- mask has it; else a close if it is a gather target, showing whether a propagate edge enters it and
-- whether a back edge starts in i; else an open if i is a scatter source
abbrev pub token_at : List ℕ → ℕ → Token
token_at ws i =
    let W = width_word ws in
    let d = depth_word ws in
    token_of (any_below 256 (λ b. bit_of W (letters_in ws) b (suc i))) (mask 256 (λ b. bit_of W (letters_in ws) b (suc i)))
    (any_below (suc d) (λ k. bit_of_three W (propagate_in ws) 0 k (suc i) && not (bit_of_three W (propagate_in ws) 1 k (suc i))))
    (any_below 256 (λ b. bit_of W (repeats_in ws) b (suc i)))
    (any_below d (λ k. bit_of_three W (gather_in ws) 2 k (suc i))) (any_below d (λ k. bit_of_three W (scatter_in ws) 1 k i))
    (any_below d (λ k. bit_of_two W (back_in ws) 0 k i))

-- n tokens from f a on; the tokens between m states
abbrev pub tokens_from : ℕ → ℕ → (ℕ → Token) → List Token
tokens_from zero a f = []
tokens_from (suc n) a f = f a ∷ tokens_from n (suc a) f

abbrev pub tokens_between : ℕ → (ℕ → Token) → List Token
tokens_between zero f = []
tokens_between (suc n) f = tokens_from n 0 f

-- TAKE APART
abbrev pub tape : List ℕ → List Token
tape ws = tokens_between (state_word ws) (token_at ws)
