-- MASKS IN A ROW OF WORDS: rows of eight words. A plane is one row for each of nine depths; for each depth the rows of all planes follow each other.
use Rattle.std.specs.Prelude.{◌≡◌, List, [], ◌∷◌, ℕ, zero, suc, ◌+◌, ◌-◌, ◌*◌, ◌/◌, ◌%◌, ◌^◌, ◌<◌, drop, get_or, set, take}
use Rattle.std.specs.Int.Bits.{bit_or}
use Rattle.model.specs.Models.LayOut.{entering, leaving, number, Stroke, strokes, Plane}
use Rattle.tokens_masks.specs.Joins.{Either, join_tables, Only}
use Rattle.tokens.specs.Scans.{Innermost, scan_of, with_frames}
use Rattle.tokens_masks.specs.Tables.{blank, Table}
use Rattle.tokens.specs.Tokens.{token_of}
use Rattle.tokens.specs.declared.Frame.{Frame}
use Rattle.tokens.specs.declared.Scan.{Scan}
use Rattle.tokens.specs.declared.token.Token.{Token}

-- how many planes there are: one for each kind of the model, by its `number`, and one for propagate's block, by the number that the model leaves to it
abbrev pub planes : ℕ
planes = 13

abbrev pub block_plane : ℕ
block_plane = 8

-- which row plane i has for depth k; and the place of its word j
abbrev pub row_number : (k i : ℕ) → ℕ
row_number k i = planes * k + i

abbrev pub place_of : (k i j : ℕ) → ℕ
place_of k i j = 8 * row_number k i + j

-- row r
abbrev pub row_in : List ℕ → ℕ → List ℕ
row_in ms r = take 8 (drop (8 * r) ms)

-- plane i: n rows, from depth k on
abbrev pub rows_from : ℕ → ℕ → List ℕ → ℕ → Table
rows_from zero k ms i = []
rows_from (suc n) k ms i = row_in ms (row_number k i) ∷ rows_from n (suc k) ms i

unfoldable pub table_in : List ℕ → ℕ → Table
table_in ms i = rows_from 9 0 ms i

-- ---- marks
-- state x in row r; the n states from x on; the states from a on and before z, in plane i at depth k
abbrev pub mark_row : List ℕ → ℕ → ℕ → List ℕ
mark_row ms r x = set ms (8 * r + x / 64) (bit_or (get_or ms (8 * r + x / 64) 0) (2 ^ (x % 64)))

abbrev pub run_row : ℕ → List ℕ → ℕ → ℕ → List ℕ
run_row zero ms r x = ms
run_row (suc n) ms r x = run_row n (mark_row ms r x) r (suc x)

abbrev pub run_in : List ℕ → (i k a z : ℕ) → List ℕ
run_in ms i k a z = run_row (z - a) ms (row_number k i) a

-- an edge of depth k: the state that it leaves, and in the plane after it the one that it enters
abbrev pub edge_in : List ℕ → (i k from to : ℕ) → List ℕ
edge_in ms i k from to = run_in (run_in ms i k from (suc from)) (suc i) k to (suc to)

-- strokes, one after another
abbrev pub paint : List Stroke → List ℕ → List ℕ
paint [] ms = ms
paint (s ∷ ss) ms = paint ss (run_in ms (number s.plane) s.row s.from s.to)

-- no mask has a state
abbrev pub Blank : List ℕ → Type 0
Blank ms = (w : Plane) → table_in ms (number w) ≡ blank

-- what a token marks
abbrev pub MarkSays : Scan → Frame → Token → (ms ms' : List ℕ) → Type 0
MarkSays q f y ms ms' = (fs : List Frame) → Innermost q f fs → ms' ≡ paint (strokes (token_of y) (scan_of (with_frames q fs))) ms

-- propagate's block, source and target from the states that edges leave and those that they enter
pub record Joined (ms ms' : List ℕ) : Type 0 where
  pub block : table_in ms' block_plane ≡ join_tables Either (table_in ms (number leaving)) (table_in ms (number entering))
  pub source : table_in ms' (number leaving) ≡ join_tables Only (table_in ms (number leaving)) (table_in ms (number entering))
  pub target : table_in ms' (number entering) ≡ join_tables Only (table_in ms (number entering)) (table_in ms (number leaving))
  pub below : (i : ℕ) → i < block_plane → table_in ms' i ≡ table_in ms i
  pub above : (i : ℕ) → number entering < i → i < planes → table_in ms' i ≡ table_in ms i
