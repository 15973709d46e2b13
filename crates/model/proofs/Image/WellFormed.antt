-- A tree is well formed, that is the tree of some rule, exactly if it has an item, its unions are good and its tokens' classes are fine.
use mathlib.Core.Logic.{◌↔◌}
use mathlib.Core.List.{List, [], ◌∷◌}
use Rattle.model.specs.Tree.{Alts, end, last, letter, Mark, more, Seq, union}
use Rattle.model.specs.Edges.{alts_empty}
use Rattle.model.specs.Models.Tokens.{a_bar, a_close, alts_tokens, shown, Token, tokens}
use Rattle.model.proofs.Image.Classes.{AllFine}
use Rattle.model.proofs.Image.Unions.{GoodAlts, GoodUnions}
use Rattle.model.proofs.Laws.Trees.{NonEmpty}
use Rattle.model.proofs.Reading.WellFormed.{Good, WellFormed}
use Rattle.model.proofs.Reading.WellFormed.{GoodAlts as WellAlts}

-- ---- good trees
mutual
  good_unions : (s : Seq) → Good s → GoodUnions s
  good_unions end g = tt
  good_unions (letter c r s) g = good_unions s g.1
  good_unions (union m a s) g = (g.0, good_alts a g.1, good_unions s g.2)

  good_alts : (a : Alts) → WellAlts a → GoodAlts a
  good_alts (last s) g = (g.0, good_unions s g.1)
  good_alts (more s a) g = (g.0, good_unions s g.1, good_alts a g.2)

mutual
  good_fine : (s : Seq) (rest : List Token) → Good s → AllFine rest → AllFine (tokens s rest)
  good_fine end rest g f = f
  good_fine (letter c r s) rest g f = (g.0, good_fine s rest g.1 f)
  good_fine (union m a s) rest g f = (tt, alts_fine a (shown m (alts_empty a)) (tokens s rest) g.1 (good_fine s rest g.2 f))

  alts_fine : (a : Alts) (m : Mark) (rest : List Token) → WellAlts a → AllFine rest → AllFine (alts_tokens a m rest)
  alts_fine (last s) m rest g f = good_fine s (a_close m ∷ rest) g.1 (tt, f)
  alts_fine (more s a) m rest g f = good_fine s (a_bar ∷ alts_tokens a m rest) g.1 (tt, alts_fine a m rest g.2 f)

-- and back: the classes of the tokens are those of the tree, and then those of the rest
mutual
  fine_good : (s : Seq) (rest : List Token) → GoodUnions s → AllFine (tokens s rest) → Good s × AllFine rest
  fine_good end rest g f = (tt, f)
  fine_good (letter c r s) rest g f = let k = fine_good s rest g f.1 in ((f.0, k.0), k.1)
  fine_good (union m a s) rest g f =
      let k = fine_alts a (shown m (alts_empty a)) (tokens s rest) g.1 f.1 in
      let n = fine_good s rest g.2 k.1 in
      ((g.0, k.0, n.0), n.1)

  fine_alts : (a : Alts) (m : Mark) (rest : List Token) → GoodAlts a → AllFine (alts_tokens a m rest) → WellAlts a × AllFine rest
  fine_alts (last s) m rest g f = let k = fine_good s (a_close m ∷ rest) g.1 f in ((g.0, k.0), k.1.1)
  fine_alts (more s a) m rest g f =
      let k = fine_good s (a_bar ∷ alts_tokens a m rest) g.1 f in
      let n = fine_alts a m rest g.2 k.1.1 in
      ((g.0, k.0, n.0), n.1)

-- THE THEOREM
pub well_formed : (s : Seq) → WellFormed s ↔ (NonEmpty s × GoodUnions s × AllFine (tokens s []))
well_formed s = (
  λ w. (w.full, good_unions s w.good, good_fine s [] w.good tt),
  λ h. record { full = h.0; good = (fine_good s [] h.1 h.2).0 },
)

pub well_fine : (s : Seq) → WellFormed s → AllFine (tokens s [])
well_fine s w = ((well_formed s).0 w).2
