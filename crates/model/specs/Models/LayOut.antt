-- LAY OUT: from a row of tokens to the places of the masks, in one scan from left to right with a frame for each open union; which rows of
-- tokens are a tree's, and how deep they go; each union's own mark; the image laid out for a row of tokens.
use Rattle.std.specs.Prelude.{Bool, true, false, not, ◌&&◌, ◌||◌, cond, List, [], ◌∷◌, ◌++◌, ℕ, zero, suc, max, leb, ltb, eqb, length, get_or}
use Rattle.model.specs.Bits.{bit, mask}
use Rattle.model.specs.Lists.{any}
use Rattle.model.specs.Tree.{can_loop, can_omit, can_return, can_skip, Mark, optional, Repeat, starred, unmarked}
use Rattle.model.specs.Image.{join, section, width, words}
use Rattle.model.specs.Models.Tokens.{a_bar, a_close, a_letter, an_open, class_of, kept, loop_class_of, Token}

-- ---- the scan
-- an open union: its start; whether a bar was met, and then its first alternative's end; the start of the alternative at hand; whether an
-- alternative before that one can be empty; whether what stands before the union in its own sequence can be empty
pub record Frame : Type 0 where
  pub start : ℕ
  pub barred : Bool
  pub first_end : ℕ
  pub alternative : ℕ
  pub empty_before : Bool
  pub empty_outside : Bool

-- the state reached; of the sequence at hand, whether it has no item yet and whether it can be empty so far; the open unions, innermost first
pub record Scan : Type 0 where
  pub position : ℕ
  pub no_item : Bool
  pub can_be_empty : Bool
  pub stack : List Frame

abbrev pub scan : ℕ → Bool → Bool → List Frame → Scan
scan t e c st = record { position = t; no_item = e; can_be_empty = c; stack = st }

abbrev pub begin : Scan
begin = scan 0 true true []

-- the frame of a union that opens here; the frame after a bar in state z, where c says whether the alternative before it can be empty
abbrev pub opened : Scan → Frame
opened q = record { start = q.position; barred = false; first_end = 0; alternative = suc q.position; empty_before = false; empty_outside = q.can_be_empty }

abbrev pub next_alternative : Frame → ℕ → Bool → Frame
next_alternative f z c = record {
  start = f.start;
  barred = true;
  first_end = cond f.barred f.first_end z;
  alternative = suc z;
  empty_before = f.empty_before || c;
  empty_outside = f.empty_outside;
}

-- the scan after a bar or a close in state z
abbrev pub after_bar : ℕ → Bool → List Frame → Scan
after_bar z c [] = scan (suc z) false c []
after_bar z c (f ∷ st) = scan (suc z) true true (next_alternative f z c ∷ st)

abbrev pub after_close : Mark → ℕ → Bool → List Frame → Scan
after_close m z c [] = scan (suc z) false c []
after_close m z c (f ∷ st) = scan (suc z) false (f.empty_outside && can_omit m) st

abbrev pub step : Token → Scan → Scan
step (a_letter c r) q = scan (suc q.position) false (q.can_be_empty && can_skip r) q.stack
step an_open q = scan (suc q.position) true true (opened q ∷ q.stack)
step a_bar q = after_bar q.position q.can_be_empty q.stack
step (a_close m) q = after_close m q.position q.can_be_empty q.stack

-- ---- what a token marks
-- the planes, each the masks of one sort for all depths: letter and loop places (depth 0 alone), those of scatter and gather, the states where
-- propagate edges start and end, and those where back edges do
pub data Plane : Type 0 where
  letter-place loop_place scatter-block scatter-source scatter-target gather-block gather-source gather-target leaving entering back-source back-target : Plane

-- a number for each; 8 is left to propagate's block, which is made of the two planes after it
abbrev pub number : Plane → ℕ
number letter-place = 0
number loop_place = 1
number scatter-block = 2
number scatter-source = 3
number scatter-target = 4
number gather-block = 5
number gather-source = 6
number gather-target = 7
number leaving = 9
number entering = 10
number back-source = 11
number back-target = 12

abbrev pub same_plane : Plane → Plane → Bool
same_plane v w = eqb (number v) (number w)

-- A STROKE: in one plane, in its row for a depth, the states from `from` on and before `to`
pub record Stroke : Type 0 where
  pub plane : Plane
  pub row : ℕ
  pub from : ℕ
  pub to : ℕ

abbrev pub stroke : Plane → ℕ → ℕ → ℕ → Stroke
stroke w k a z = record { plane = w; row = k; from = a; to = z }

abbrev pub one_state : Plane → ℕ → ℕ → Stroke
one_state w k x = stroke w k x (suc x)

abbrev pub covers : Stroke → ℕ → ℕ → Bool
covers s k x = (leb s.from x && ltb x s.to) && eqb s.row k

-- a propagate edge, and a back edge, of depth d from i to j
abbrev pub propagate_strokes : ℕ → ℕ → ℕ → List Stroke
propagate_strokes d i j = one_state leaving d i ∷ one_state entering d j ∷ []

abbrev pub back_strokes : ℕ → ℕ → ℕ → List Stroke
back_strokes d i j = one_state back-source d i ∷ one_state back-target d j ∷ []

-- a letter from state t at depth d
abbrev pub letter_strokes : Repeat → ℕ → ℕ → List Stroke
letter_strokes r t d =
    one_state letter-place 0 (suc t) ∷ (cond (can_loop r) (one_state loop_place 0 (suc t) ∷ []) [] ++ cond (can_skip r) (propagate_strokes d t (suc t)) [])

-- the open of a union that starts in t at depth d; a bar after the alternative that ends in z
abbrev pub open_strokes : ℕ → ℕ → List Stroke
open_strokes t d = one_state scatter-source d t ∷ one_state scatter-target d (suc t) ∷ []

abbrev pub bar_strokes : ℕ → ℕ → List Stroke
bar_strokes z d = one_state scatter-target d (suc z) ∷ one_state gather-source d z ∷ []

-- the end of the union f at depth d after the alternative that ends in z; its close, which shows an edge over the union and one back, or none
abbrev pub end_strokes : Frame → ℕ → ℕ → List Stroke
end_strokes f z d =
    one_state scatter-block d (suc f.alternative)
    ∷ stroke gather-block d (cond f.barred f.first_end z) (suc z)
    ∷ one_state gather-source d z
    ∷ one_state gather-target d (suc z)
    ∷ []

abbrev pub close_strokes : Mark → Frame → ℕ → ℕ → List Stroke
close_strokes m f z d =
    end_strokes f z d ++ (cond (can_omit m) (propagate_strokes d f.start (suc z)) [] ++ cond (can_return m) (back_strokes d z (suc f.start)) [])

-- by the open unions
abbrev pub bar_strokes_in : ℕ → List Frame → List Stroke
bar_strokes_in z [] = []
bar_strokes_in z (f ∷ st) = bar_strokes z (length st)

abbrev pub close_strokes_in : Mark → ℕ → List Frame → List Stroke
close_strokes_in m z [] = []
close_strokes_in m z (f ∷ st) = close_strokes m f z (length st)

-- THE STROKES OF A TOKEN
abbrev pub strokes : Token → Scan → List Stroke
strokes (a_letter c r) q = letter_strokes r q.position (length q.stack)
strokes an_open q = open_strokes q.position (length q.stack)
strokes a_bar q = bar_strokes_in q.position q.stack
strokes (a_close m) q = close_strokes_in m q.position q.stack

-- of plane w the state x at depth k
abbrev pub marks : Plane → ℕ → ℕ → Stroke → Bool
marks w k x s = same_plane s.plane w && covers s k x

abbrev pub mark : Token → Scan → Plane → ℕ → ℕ → Bool
mark y q w k x = any (marks w k x) (strokes y q)

-- LAY OUT: what the tokens that are still to come mark
abbrev pub lay_out : List Token → Scan → Plane → ℕ → ℕ → Bool
lay_out [] q w k x = false
lay_out (y ∷ ys) q w k x = mark y q w k x || lay_out ys (step y q) w k x

-- ---- which rows of tokens are those of a tree of depth at most 8
abbrev pub outside : List Frame → Bool
outside [] = true
outside (f ∷ st) = false

abbrev pub inside : List Frame → Bool
inside [] = false
inside (f ∷ st) = true

-- a close may show m after several alternatives or one, of which some can be empty or none: a union that can be empty has an edge over it,
-- a union of one alternative has one that only `?` explains, and a group with `*` has one body
abbrev pub fitting : Mark → (several empty : Bool) → Bool
fitting unmarked several empty = several && not empty
fitting optional several empty = several || not empty
fitting starred several empty = not several

abbrev pub fitting_in : Mark → Bool → List Frame → Bool
fitting_in m c [] = false
fitting_in m c (f ∷ st) = fitting m f.barred (f.empty_before || c)

-- what is asked of a token where it stands: no alternative is empty, a close shows what fits
abbrev pub check : Token → Scan → Bool
check (a_letter c r) q = true
check an_open q = ltb (length q.stack) 8
check a_bar q = inside q.stack && not q.no_item
check (a_close m) q = fitting_in m q.can_be_empty q.stack && not q.no_item

abbrev pub valid : List Token → Scan → Bool
valid [] q = outside q.stack && not q.no_item
valid (y ∷ ys) q = check y q && valid ys (step y q)

-- the largest depth that the tokens still to come reach
abbrev pub reach : List Token → Scan → ℕ
reach [] q = 0
reach (a_letter c r ∷ ys) q = reach ys (step (a_letter c r) q)
reach (an_open ∷ ys) q = max (suc (length q.stack)) (reach ys (step an_open q))
reach (a_bar ∷ ys) q = reach ys (step a_bar q)
reach (a_close m ∷ ys) q = reach ys (step (a_close m) q)

-- ---- each union's own mark, in place of the one that its close shows
-- some alternative of the innermost union up to the scan can be empty
abbrev pub empty_in : Bool → List Frame → Bool
empty_in c [] = c
empty_in c (f ∷ st) = f.empty_before || c

-- e says whether some alternative can be empty
abbrev pub own : Token → Bool → Token
own (a_letter c r) e = a_letter c r
own an_open e = an_open
own a_bar e = a_bar
own (a_close m) e = a_close (kept m e)

abbrev pub owns : List Token → Scan → List Token
owns [] q = []
owns (y ∷ ys) q = own y (empty_in q.can_be_empty q.stack) ∷ owns ys (step y q)

-- ---- the image from its sets
-- the W words of a set of states below m; the three masks of one depth
abbrev pub set : ℕ → ℕ → (ℕ → Bool) → List ℕ
set m W f = words W (mask m f)

abbrev pub three : ℕ → ℕ → (ℕ → Bool) → (ℕ → Bool) → (ℕ → Bool) → List ℕ
three m W f g h = set m W f ++ (set m W g ++ set m W h)

-- the two masks of the back edges of one depth
abbrev pub two : ℕ → ℕ → (ℕ → Bool) → (ℕ → Bool) → List ℕ
two m W f g = set m W f ++ set m W g

-- propagate's masks by the states where its edges start and end
abbrev pub block_of : (Plane → ℕ → ℕ → Bool) → ℕ → ℕ → Bool
block_of B k x = B leaving k x || B entering k x

abbrev pub source_of : (Plane → ℕ → ℕ → Bool) → ℕ → ℕ → Bool
source_of B k x = B leaving k x && not (B entering k x)

abbrev pub target_of : (Plane → ℕ → ℕ → Bool) → ℕ → ℕ → Bool
target_of B k x = B entering k x && not (B leaving k x)

-- the seven sections by the shape m, W, d, the letters' sets L, the loops' R, and the others B
abbrev pub assemble : ℕ → ℕ → ℕ → (ℕ → ℕ → Bool) → (ℕ → ℕ → Bool) → (Plane → ℕ → ℕ → Bool) → List ℕ
assemble m W d L R B =
    section (m ∷ W ∷ d ∷ [])
    ++ (section (join 256 0 (λ b. set m W (L b)))
    ++ (section (join 256 0 (λ b. set m W (R b)))
    ++ (section (join d 0 (λ k. three m W (B scatter-block k) (B scatter-source k) (B scatter-target k)))
    ++ (section (join d 0 (λ k. three m W (B gather-block k) (B gather-source k) (B gather-target k)))
    ++ (section (join (suc d) 0 (λ k. three m W (block_of B k) (source_of B k) (target_of B k)))
    ++ section (join d 0 (λ k. two m W (B back-source k) (B back-target k))))))))

-- the letters' and the loops' sets of a row of tokens: token i leads to state i + 1
abbrev pub token_letters : List Token → ℕ → ℕ → Bool
token_letters l b zero = false
token_letters l b (suc i) = bit (class_of (get_or l i a_bar)) b

abbrev pub token_loops : List Token → ℕ → ℕ → Bool
token_loops l b zero = false
token_loops l b (suc i) = bit (loop_class_of (get_or l i a_bar)) b

-- THE IMAGE LAID OUT for a row of tokens
abbrev pub laid : List Token → List ℕ
laid l = assemble (suc (length l)) (width (suc (length l))) (reach l begin) (token_letters l) (token_loops l) (lay_out l begin)
