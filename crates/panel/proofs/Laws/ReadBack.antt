-- READ BACK'S COUNT FITS: a tree within 512 states has at most 511 tokens, and each is written with at most 2,307 bytes.
use mathlib.Core.Path.{◌≡◌, ap}
use mathlib.Core.List.{List, [], ◌∷◌}
use Prim.Native.Nat.{ℕ, ◌*◌, ◌≤◌}
use native.Mathlib.Omega.{arith}
use lib.ListN.{length, length-append}
use Rattle.model.specs.Answers.{Counted, ImageOf, no_room, not_an_image, ReadBackSays, written}
use Rattle.model.specs.Models.LayOut.{begin, owns}
use Rattle.model.specs.Models.Tokens.{a_bar, a_close, a_letter, an_open, Token, tokens}
use Rattle.model.specs.Tree.{optional, starred, Tree, unmarked}
use Rattle.model.specs.Writing.{writing}
use Rattle.model.proofs.Answers.ReadBack.{read_back_one}
use Rattle.model.proofs.Image.Tokens.{length_tokens}
use Rattle.model.proofs.Image.TokenWriting.{length_owns, tokens-writing, tokens_writing, token_writing}
use Rattle.model.proofs.Image.WellFormed.{well_formed}
use Rattle.model.proofs.Reading.WellFormed.{rule_well}
use Rattle.writing_letters.proofs.Laws.Bounds.{letter_short}
use Rattle.panel.specs.Says.{Gives, itself}
use Rattle.panel.proofs.Laws.Given.{Apart, apart, one_given}

token_short : (x : Token) → length (token_writing x) ≤ 2307
token_short (a_letter c r) = letter_short c r
token_short an_open = omega arith
token_short a_bar = omega arith
token_short (a_close unmarked) = omega arith
token_short (a_close optional) = omega arith
token_short (a_close starred) = omega arith

tokens_short : (xs : List Token) → length (tokens_writing xs) ≤ 2307 * length xs
tokens_short [] = omega arith
tokens_short (x ∷ xs) = omega (arith, length-append (token_writing x) (tokens_writing xs), token_short x, tokens_short xs)

pub writing_small : {words : List ℕ} (t : Tree) → ImageOf words t → length (writing t) ≤ 1178877
writing_small t i =
    let own = owns (tokens t []) begin in
    let e : tokens_writing own ≡ writing t = tokens-writing t ((well_formed t).0 (rule_well i.is_rule)).1 in
    omega (arith, ap (λ (w : List ℕ). length w) e, tokens_short own, length_owns (tokens t []) begin, length_tokens t, i.few)

module _ {words before : List ℕ} where
  pub count_small : {a : Counted} → ReadBackSays words before a → (a.place ≡ 0) × (a.given ≤ 1178877)
  count_small (not_an_image n e) = (ap (λ (a : Counted). a.place) e, omega (arith, ap (λ (a : Counted). a.given) e))
  count_small (no_room t i l e) = (ap (λ (a : Counted). a.place) e, omega (arith, ap (λ (a : Counted). a.given) e))
  count_small (written t i l e) = (ap (λ (a : Counted). a.place) e, omega (arith, ap (λ (a : Counted). a.given) e, writing_small t i))

  -- WHAT A CALLER TAKES FROM THE NUMBER GIVEN is the table's number and count; and there is one number to be given
  module _ {r : ℕ} {after : List ℕ} (G : Gives itself (ReadBackSays words before) r after) where
    pub read_back_apart : Apart G
    read_back_apart = let k = count_small G.says in apart G k.0 (omega (arith, k.1))

    pub read_back_given : {q : ℕ} {later : List ℕ} → Gives itself (ReadBackSays words before) q later → (r ≡ q) × (after ≡ later)
    read_back_given = one_given G (read_back_one words before)
