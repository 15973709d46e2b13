-- TAPES: the tokens on a tape, which tapes are a tree's, and the masks laid out for them.
use Rattle.std.specs.Prelude.{◌≡◌, Option, None, Some, Bool, ◌&&◌, cond, List, [], ◌∷◌, ℕ, suc, max, leb, T, length, take}
use Rattle.model.specs.Tree as tree
use Rattle.model.specs.Models.LayOut.{begin, entering, leaving, number, reach, valid, Plane}
use Rattle.model.specs.Models.Tokens.{a_bar, a_close, a_letter, an_open}
use Rattle.model.specs.Models.Tokens as model
use Rattle.tokens_masks.specs.Joins.{Either, join_tables, Only}
use Rattle.tokens_masks.specs.Masks.{table_in}
use Rattle.tokens_masks.specs.Tables.{blank, paint_all, Table}
use Rattle.tokens.specs.Kinds.{read_kind}
use Rattle.tokens.specs.Tokens.{bare, token_of}
use Rattle.tokens_masks.specs.declared.Tape.{Tape}

abbrev pub read_kinds : List ℕ → List model.Token
read_kinds [] = []
read_kinds (k ∷ ks) = token_of (read_kind k) ∷ read_kinds ks

abbrev pub tokens_of : Tape → List model.Token
tokens_of t = read_kinds (take t.length t.kinds)

-- the tokens without their classes
abbrev pub bares : List model.Token → List model.Token
bares [] = []
bares (y ∷ ys) = bare y ∷ bares ys

-- the tape of a tree: its tokens, without the classes
pub record TapeOf (s : tree.Tree) (t : Tape) : Type 0 where
  pub long : t.length ≡ length (model.tokens s [])
  pub tokens_are : tokens_of t ≡ bares (model.tokens s [])

-- at most 511 tokens, which are those of a tree of depth at most 8
abbrev pub is_tree : Tape → Bool
is_tree t = leb t.length 511 && valid (tokens_of t) begin

-- WHAT IS ON A TAPE: a tree's tokens and their depth, or anything else
abbrev pub on_tape : Tape → Option ℕ
on_tape t = cond (is_tree t) (Some (reach (tokens_of t) begin)) None

-- an open leads one deeper
abbrev pub deeper_by : ℕ → ℕ → model.Token → ℕ
deeper_by deepest depth (a_letter c r) = deepest
deeper_by deepest depth an_open = max deepest (suc depth)
deeper_by deepest depth a_bar = deepest
deeper_by deepest depth (a_close m) = deepest

-- LAY OUT: plane w; no mask has a state where the tape is not a tree's
abbrev pub table_of : Tape → Plane → Table
table_of t w = cond (is_tree t) (paint_all (tokens_of t) begin w blank) blank

-- propagate's masks from the states that its edges leave and those that they enter
abbrev pub propagate_block_table : Tape → Table
propagate_block_table t = join_tables Either (table_of t leaving) (table_of t entering)

abbrev pub propagate_source_table : Tape → Table
propagate_source_table t = join_tables Only (table_of t leaving) (table_of t entering)

abbrev pub propagate_target_table : Tape → Table
propagate_target_table t = join_tables Only (table_of t entering) (table_of t leaving)

-- the words hold, plane by plane, what is laid out, before propagate's masks are joined
abbrev pub PlanesHold : Tape → List ℕ → Type 0
PlanesHold t ms = (w : Plane) → table_in ms (number w) ≡ table_of t w

-- they do if the tape is a tree's; of any other nothing is said
abbrev pub ScanLays : Tape → List ℕ → Type 0
ScanLays t ms = T (is_tree t) → PlanesHold t ms
