-- THE TOKENS OF A SEQUENCE ARE THOSE OF ITS ITEMS, one after another: of glued sequences, of alternatives, and of what a union adds.
use mathlib.Core.Path.{◌≡◌, refl, sym, ap, ◌∙◌}
use mathlib.Core.List.{List, [], ◌∷◌, ◌++◌, append_assoc}
use Rattle.model.specs.Edges.{alts_empty}
use Rattle.model.specs.Models.Tokens.{a_bar, a_close, a_letter, alts_tokens, an_open, shown, Token, tokens}
use Rattle.model.specs.Tree.{Alts, end, glue, last, letter, Mark, more, Seq, union}
use Rattle.model.proofs.Image.Groups.{tokens_glue}
use Rattle.rule.specs.Parts.{seq_tokens}
use Rattle.rule.specs.Tokens.{between}

-- what follows stands after the tokens
mutual
  pub tokens_onto : (s : Seq) (rest : List Token) → tokens s rest ≡ seq_tokens s ++ rest
  tokens_onto end rest = refl
  tokens_onto (letter c r s) rest = ap (λ (l : List Token). a_letter c r ∷ l) (tokens_onto s rest)
  tokens_onto (union m a s) rest =
      let k = shown m (alts_empty a) in
      ap (λ (l : List Token). an_open ∷ l)
      (ap (alts_tokens a k) (tokens_onto s rest)
      ∙ alts_onto a k (seq_tokens s ++ rest)
      ∙ sym (append_assoc (between a) (a_close k ∷ seq_tokens s) rest)
      ∙ ap (λ (l : List Token). l ++ rest) (sym (alts_onto a k (seq_tokens s))))

  pub alts_onto : (a : Alts) (m : Mark) (rest : List Token) → alts_tokens a m rest ≡ between a ++ (a_close m ∷ rest)
  alts_onto (last s) m rest = tokens_onto s (a_close m ∷ rest)
  alts_onto (more s a) m rest =
      tokens_onto s (a_bar ∷ alts_tokens a m rest)
      ∙ ap (λ (l : List Token). seq_tokens s ++ (a_bar ∷ l)) (alts_onto a m rest)
      ∙ sym (append_assoc (seq_tokens s) (a_bar ∷ between a) (a_close m ∷ rest))

pub glue_tokens : (h t : Seq) → seq_tokens (glue h t) ≡ seq_tokens h ++ seq_tokens t
glue_tokens h t = tokens_glue h t [] ∙ tokens_onto h (seq_tokens t)
