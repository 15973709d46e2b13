-- TOKENS: a tree as the row of tokens between its states, one between each two neighbouring states, and the tree read back from such a row.
use Rattle.std.specs.Prelude.{Bool, true, false, cond, List, [], ◌∷◌, ℕ}
use Rattle.std.proofs.Math.Option.{Option, none, some}
use Rattle.model.specs.Tree.{Alts, can_loop, end, last, letter, Mark, more, optional, Repeat, Seq, starred, union, unmarked}
use Rattle.model.specs.Edges.{alts_empty}

-- a letter leads from a state to the next, an open from a union's start to its first alternative's start, a bar from an alternative's end to
-- the next one's start, a close from the last alternative's end to the union's end; the mark of a close says whether an edge goes over the
-- union, and whether one goes back
pub data Token : Type 0 where
  a_letter : ℕ → Repeat → Token
  an_open a_bar : Token
  a_close : Mark → Token

-- the bytes that lead over a token, and those of its loop, as classes
abbrev pub class_of : Token → ℕ
class_of (a_letter c r) = c
class_of an_open = 0
class_of a_bar = 0
class_of (a_close m) = 0

abbrev pub loop_class_of : Token → ℕ
loop_class_of (a_letter c r) = cond (can_loop r) c 0
loop_class_of an_open = 0
loop_class_of a_bar = 0
loop_class_of (a_close m) = 0

-- whether alternatives are several: those of a union without a mark are, and brackets around one vanish
abbrev pub several : Alts → Bool
several (last s) = false
several (more s a) = true

-- the mark that a close shows, by the union's own mark and whether an alternative can be empty; and the union's own mark from it
abbrev pub shown : Mark → Bool → Mark
shown unmarked false = unmarked
shown unmarked true = optional
shown optional e = optional
shown starred e = starred

abbrev pub kept : Mark → Bool → Mark
kept unmarked e = unmarked
kept optional false = optional
kept optional true = unmarked
kept starred e = starred

-- the tokens of a sequence, then those of `rest`; the tokens of a union after its open, whose close shows m, then those of `rest`
abbrev mutual
  pub tokens : Seq → List Token → List Token
  tokens end rest = rest
  tokens (letter c r s) rest = a_letter c r ∷ tokens s rest
  tokens (union m a s) rest = an_open ∷ alts_tokens a (shown m (alts_empty a)) (tokens s rest)

  pub alts_tokens : Alts → Mark → List Token → List Token
  alts_tokens (last s) m rest = tokens s (a_close m ∷ rest)
  alts_tokens (more s a) m rest = tokens s (a_bar ∷ alts_tokens a m rest)

-- ---- and back, from the right
-- of a union whose close was met and whose open was not: the alternatives to the right, what the close shows, and what follows the union
abbrev pub Begun : Type 0
Begun = Option Alts × Mark × Seq

-- an alternative before those to the right
abbrev pub alternatives : Seq → Option Alts → Alts
alternatives s none = last s
alternatives s (some a) = more s a

abbrev pub closed : Alts → Mark → Seq → Seq
closed a m s = union (kept m (alts_empty a)) a s

-- what is read so far: the sequence at hand and the unions around it, innermost first
pub record Parsed : Type 0 where
  pub here : Seq
  pub stack : List Begun

abbrev pub parsed : Seq → List Begun → Parsed
parsed s bs = record { here = s; stack = bs }

-- one more token on the left
abbrev pub prepend : Token → Seq → List Begun → Parsed
prepend (a_letter c r) s bs = parsed (letter c r s) bs
prepend (a_close m) s bs = parsed end ((none, m, s) ∷ bs)
prepend a_bar s [] = parsed s []
prepend a_bar s (b ∷ bs) = parsed end ((some (alternatives s b.0), b.1, b.2) ∷ bs)
prepend an_open s [] = parsed s []
prepend an_open s (b ∷ bs) = parsed (closed (alternatives s b.0) b.1 b.2) bs

abbrev pub parse : List Token → Parsed
parse [] = parsed end []
parse (x ∷ xs) = let p = parse xs in prepend x p.here p.stack
