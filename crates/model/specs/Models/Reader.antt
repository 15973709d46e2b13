-- THE READERS OF RULES. Each answers what it read and the bytes after it, or, if it cannot read, the bytes from the first one on after which no
-- rule can follow, whatever comes next. Because that byte has to be the first, a reader whose number must not be too small is told the least
-- number that will do, and stops at the digit after which it is out of reach.
use Rattle.std.specs.Prelude.{Bool, true, ◌&&◌, cond, List, [], ◌∷◌, ℕ, zero, suc, ◌+◌, ◌-◌, ◌*◌, ◌^◌, max, eqb, leb, length}
use Rattle.std.proofs.Math.Option.{Option, none, some}
use Rattle.std.specs.Int.Bits.{bit_or}
use Rattle.model.specs.Lists.{within}
use Rattle.model.specs.Bytes.{byte, bytes, digital, hexadecimal, plain, signs}
use Rattle.model.specs.Tree.{Alts, glue, last, more, once, option, plus, Repeat, Seq, star}
use Rattle.model.specs.Grammar.{bare, bracket, dot_class, grouped, plainly, repeated, Sign, span, times}

-- what was read and the bytes after it, or the bytes from the one on that cannot be read
pub data Read (A : Type 0) : Type 0 where
  got : A → List ℕ → Read A
  bad : List ℕ → Read A

-- with what was read go on by f; if nothing was read, take g
abbrev pub case : {A B : Type 0} → Read A → (A → List ℕ → B) → B → B
case (got a r) f g = f a r
case (bad r) f g = g

-- with what was read go on by f; if nothing was read, the whole reading ends there
abbrev pub bind : {A B : Type 0} → Read A → (A → List ℕ → Read B) → Read B
bind (got a r) f = f a r
bind (bad r) f = bad r

-- the byte x, and no other
abbrev pub past : ℕ → List ℕ → Read (Unit {0})
past x [] = bad []
past x (y ∷ ys) = cond (eqb y x) (got tt ys) (bad (y ∷ ys))

-- ---- escapes: each reader stops where no byte of at least lo can come any more
abbrev pub hex_value : ℕ → ℕ
hex_value x = cond (digital x) (x - byte "0") (cond (leb x (byte "F")) (x - 55) (x - 87))

-- the second hex digit, after the first one h
abbrev pub read_hex : ℕ → ℕ → List ℕ → Read ℕ
read_hex lo h [] = bad []
read_hex lo h (y ∷ ys) = cond (hexadecimal y && leb lo (16 * h + hex_value y)) (got (16 * h + hex_value y) ys) (bad (y ∷ ys))

-- two hex digits, after `\x`
abbrev pub read_hexes : ℕ → List ℕ → Read ℕ
read_hexes lo [] = bad []
read_hexes lo (x ∷ xs) = cond (hexadecimal x && leb lo (16 * hex_value x + 15)) (read_hex lo (hex_value x) xs) (bad (x ∷ xs))

-- an escape, after its `\`
abbrev pub read_escape : ℕ → List ℕ → Read ℕ
read_escape lo [] = bad []
read_escape lo (x ∷ xs) =
    cond (within x (byte "-" ∷ signs)) (cond (leb lo x) (got x xs) (bad (x ∷ xs)))
    (cond (eqb x (byte "x")) (read_hexes lo xs) (bad (x ∷ xs)))

-- ---- classes
-- a single, of at least lo
abbrev pub read_single : ℕ → List ℕ → Read ℕ
read_single lo [] = bad []
read_single lo (x ∷ xs) =
    cond (bare x) (cond (leb lo x) (got x xs) (bad (x ∷ xs)))
    (cond (eqb x (byte "\\")) (read_escape lo xs) (bad (x ∷ xs)))

-- a single, or a range: the upper end is at least the lower one
abbrev pub read_member : List ℕ → Read ℕ
read_member l = bind (read_single 0 l) (λ lo r. case (past (byte "-") r) (λ x r'. bind (read_single lo r') (λ hi r''. got (span lo hi) r'')) (got (span lo lo) r))

-- one or more members and `]`, with c for the members before them; n bounds how many
abbrev pub read_members : ℕ → ℕ → List ℕ → Read ℕ
read_members zero c l = bad l
read_members (suc n) c l = bind (read_member l) (λ d r. case (past (byte "]") r) (λ x r'. got (bit_or c d) r') (read_members n (bit_or c d) r))

-- ---- letters
abbrev pub read_letter : List ℕ → Read ℕ
read_letter [] = bad []
read_letter (x ∷ xs) =
    cond (plain x) (got (2 ^ x) xs)
    (cond (eqb x (byte ".")) (got dot_class xs)
    (cond (eqb x (byte "[")) (read_members (suc (length xs)) 0 xs)
    (cond (eqb x (byte "\\")) (bind (read_escape 0 xs) (λ b r. got (2 ^ b) r)) (bad (x ∷ xs)))))

-- ---- repeat signs
-- the largest number that v becomes with k digits more
abbrev pub reach : ℕ → ℕ → ℕ
reach zero v = v
reach (suc k) v = reach k (10 * v + 9)

-- the number v, if it is at least m
abbrev pub stop : ℕ → ℕ → List ℕ → Read ℕ
stop m v l = cond (leb m v) (got v l) (bad l)

-- up to k digits more after v, for a number of at least m
abbrev pub read_digits : ℕ → ℕ → ℕ → List ℕ → Read ℕ
read_digits zero m v l = stop m v l
read_digits (suc k) m v [] = stop m v []
read_digits (suc k) m v (x ∷ xs) =
    cond (digital x)
    (cond (leb m (reach k (10 * v + (x - byte "0")))) (read_digits k m (10 * v + (x - byte "0")) xs) (bad (x ∷ xs)))
    (stop m v (x ∷ xs))

-- a number of at least m
abbrev pub read_number : ℕ → List ℕ → Read ℕ
read_number m [] = bad []
read_number m (x ∷ xs) =
    cond (digital x)
    (cond (eqb x (byte "0")) (cond (leb m 0) (got 0 xs) (bad (x ∷ xs)))
    (cond (leb m (reach 2 (x - byte "0"))) (read_digits 2 m (x - byte "0") xs) (bad (x ∷ xs))))
    (bad (x ∷ xs))

-- `,y`, or `x,y`, or `x`: the second number is at least the first, and at least 1
abbrev pub read_bounds : List ℕ → Read (ℕ × ℕ)
read_bounds l =
    case (past (byte ",") l) (λ z r. bind (read_number 1 r) (λ y r'. got (0, y) r'))
    (bind (read_number 0 l) (λ x r. case (past (byte ",") r) (λ z r'. bind (read_number (max x 1) r') (λ y r''. got (x, y) r'')) (got (x, x) r)))

-- `}` after the bounds; the reading of `{0}` stops at its `}`
abbrev pub close : ℕ × ℕ → List ℕ → Read Sign
close b r = cond (leb 1 b.1) (bind (past (byte "}") r) (λ z r'. got (times b.0 b.1) r')) (bad r)

abbrev pub read_braces : List ℕ → Read Sign
read_braces l = bind (read_bounds l) close

-- at most one repeat sign
abbrev pub read_sign : List ℕ → Read Sign
read_sign [] = got (plainly once) []
read_sign (x ∷ xs) =
    cond (eqb x (byte "?")) (got (plainly option) xs)
    (cond (eqb x (byte "*")) (got (plainly star) xs)
    (cond (eqb x (byte "+")) (got (plainly plus) xs)
    (cond (eqb x (byte "{")) (read_braces xs) (got (plainly once) (x ∷ xs)))))

-- the `?`, `*` or `+` of a group, if it has one
abbrev pub read_mark : List ℕ → Read Repeat
read_mark [] = got once []
read_mark (x ∷ xs) =
    cond (eqb x (byte "?")) (got option xs) (cond (eqb x (byte "*")) (got star xs) (cond (eqb x (byte "+")) (got plus xs) (got once (x ∷ xs))))

-- a letter with its repeat sign
abbrev pub read_piece : List ℕ → Read Seq
read_piece l = bind (read_letter l) (λ c r. bind (read_sign r) (λ q r'. got (repeated c q) r'))

-- ---- the three readers that call each other
-- a sequence is over before `|`, before `)` and at the end
abbrev pub over : List ℕ → Bool
over [] = true
over (x ∷ xs) = within x (bytes "|)")

-- n bounds how deep they call each other
abbrev mutual
  pub read_alts : ℕ → List ℕ → Read Alts
  read_alts zero l = bad l
  read_alts (suc n) l = bind (read_seq n l) (λ s r. case (past (byte "|") r) (λ x r'. bind (read_alts n r') (λ a r''. got (more s a) r'')) (got (last s) r))

  pub read_seq : ℕ → List ℕ → Read Seq
  read_seq zero l = bad l
  read_seq (suc n) l = bind (read_item n l) (λ h r. cond (over r) (got h r) (bind (read_seq n r) (λ t r'. got (glue h t) r')))

  pub read_item : ℕ → List ℕ → Read Seq
  read_item zero l = bad l
  read_item (suc n) l =
      case (past (byte "(") l) (λ x r. bind (read_alts n r) (λ a r'. bind (past (byte ")") r') (λ y r''. bind (read_mark r'') (λ m r'''. got (grouped a m) r''')))) (read_piece l)

-- without a bound: three calls for each byte, and up to three more, are always enough (proofs/Reading/Cycle)
abbrev pub alts : List ℕ → Read Alts
alts l = read_alts (3 * length l + 3) l

abbrev pub seq : List ℕ → Read Seq
seq l = read_seq (3 * length l + 2) l

abbrev pub item : List ℕ → Read Seq
item l = read_item (3 * length l + 1) l

-- ---- rules
-- alternatives with nothing after them
abbrev pub whole : Read Alts → Option Seq
whole (bad r) = none
whole (got a []) = some (bracket a)
whole (got a (x ∷ xs)) = none

-- THE READER OF RULES: the tree of a rule, if the bytes are one
abbrev pub read_rule : List ℕ → Option Seq
read_rule w = whole (alts w)

-- AND OF PLACES: how many bytes were passed before the reader of alternatives stopped
abbrev pub left : {A : Type 0} → Read A → List ℕ
left (got a r) = r
left (bad r) = r

abbrev pub read_place : List ℕ → ℕ
read_place w = length w - length (left (alts w))
