-- A tree with good unions and its tokens determine each other: reading the tokens back from the right gives the tree. And there is a token between
-- each two neighbouring states: the tokens are as many as the states, less one.
use mathlib.Core.Path.{◌≡◌, refl, sym, ap, ◌∙◌}
use mathlib.Core.List.{List, [], ◌∷◌}
use mathlib.Core.Option.{Option, none, some}
use Prim.Native.Nat.{ℕ, suc, ◌+◌}
use native.Mathlib.Omega.{arith}
use lib.ListN.{length}
use Rattle.model.specs.Tree.{Alts, end, glue, last, letter, Mark, more, Seq, union}
use Rattle.model.specs.Edges.{alts_empty, alts_end, seq_end}
use Rattle.model.specs.Models.Tokens.{a_bar, a_close, a_letter, alts_tokens, an_open, Begun, closed, parse, Parsed, parsed, prepend, alternatives, several, shown, Token, tokens}
use Rattle.model.proofs.Image.Unions.{GoodAlts, GoodUnions, kept_shown}
use Rattle.model.proofs.Laws.Trees.{glue_end}

-- ---- reading back
abbrev first : Alts → Seq
first (last s) = s
first (more s a) = s

abbrev others : Alts → Option Alts
others (last s) = none
others (more s a) = some a

alternatives_back : (a : Alts) → alternatives (first a) (others a) ≡ a
alternatives_back (last s) = refl
alternatives_back (more s a) = refl

-- the token x before what p has read
abbrev before : Token → Parsed → Parsed
before x p = prepend x p.here p.stack

-- where the tokens of `rest` read as h in the unions bs, those of a sequence before them read as that sequence and h
mutual
  parse_tokens : (s : Seq) (rest : List Token) (h : Seq) (bs : List Begun) → GoodUnions s → parse rest ≡ parsed h bs
      → parse (tokens s rest) ≡ parsed (glue s h) bs
  parse_tokens end rest h bs g e = e
  parse_tokens (letter c r s) rest h bs g e = ap (before (a_letter c r)) (parse_tokens s rest h bs g e)
  parse_tokens (union m a s) rest h bs g e =
      ap (before an_open) (parse_alts a (shown m (alts_empty a)) (tokens s rest) (glue s h) bs g.1 (parse_tokens s rest h bs g.2 e))
      ∙ ap (λ (b : Alts). parsed (closed b (shown m (alts_empty a)) (glue s h)) bs) (alternatives_back a)
      ∙ ap (λ (n : Mark). parsed (union n a (glue s h)) bs) (kept_shown m (several a) (alts_empty a) g.0)

  parse_alts : (a : Alts) (m : Mark) (rest : List Token) (h : Seq) (bs : List Begun) → GoodAlts a → parse rest ≡ parsed h bs
      → parse (alts_tokens a m rest) ≡ parsed (first a) ((others a, m, h) ∷ bs)
  parse_alts (last s) m rest h bs g e =
      parse_tokens s (a_close m ∷ rest) end ((none, m, h) ∷ bs) g.1 (ap (before (a_close m)) e) ∙ ap (λ (x : Seq). parsed x ((none, m, h) ∷ bs)) (glue_end s)
  parse_alts (more s a) m rest h bs g e =
      parse_tokens s (a_bar ∷ alts_tokens a m rest) end ((some a, m, h) ∷ bs) g.1
      (ap (before a_bar) (parse_alts a m rest h bs g.2 e) ∙ ap (λ (b : Alts). parsed end ((some b, m, h) ∷ bs)) (alternatives_back a))
      ∙ ap (λ (x : Seq). parsed x ((some a, m, h) ∷ bs)) (glue_end s)

-- THE TREE IS READ BACK FROM ITS TOKENS
pub tree_of : (s : Seq) → GoodUnions s → (parse (tokens s [])).here ≡ s
tree_of s g = ap (λ (p : Parsed). p.here) (parse_tokens s [] end [] g refl) ∙ glue_end s

pub tokens_inj : (s s' : Seq) → GoodUnions s → GoodUnions s' → tokens s [] ≡ tokens s' [] → s ≡ s'
tokens_inj s s' g g' e = sym (tree_of s g) ∙ ap (λ (l : List Token). (parse l).here) e ∙ tree_of s' g'

-- ---- how many
mutual
  count : (s : Seq) (t : ℕ) (rest : List Token) → t + length (tokens s rest) ≡ seq_end s t + length rest
  count end t rest = refl
  count (letter c r s) t rest = omega (arith, count s (suc t) rest)
  count (union m a s) t rest = omega (arith, count_alts a (shown m (alts_empty a)) t (tokens s rest), count s (suc (alts_end a t)) rest)

  count_alts : (a : Alts) (m : Mark) (p : ℕ) (rest : List Token) → suc p + length (alts_tokens a m rest) ≡ suc (alts_end a p) + length rest
  count_alts (last s) m p rest = omega (arith, count s (suc p) (a_close m ∷ rest))
  count_alts (more s a) m p rest = omega (arith, count s (suc p) (a_bar ∷ alts_tokens a m rest), count_alts a m (seq_end s (suc p)) rest)

-- AS MANY TOKENS AS STATES, LESS ONE
pub length_tokens : (s : Seq) → length (tokens s []) ≡ seq_end s 0
length_tokens s = omega (arith, count s 0 [])
