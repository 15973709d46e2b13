-- THE IMAGE (document 01, "The image").
use Rattle.std.specs.Prelude.{Bool, false, not, ◌&&◌, ◌||◌, List, [], ◌∷◌, ◌++◌, ℕ, zero, suc, ◌+◌, ◌/◌, ◌%◌, ◌^◌, eqb, leb, ltb, length}
use Rattle.model.specs.Lists.{any, within}
use Rattle.model.specs.Bits.{mask}
use Rattle.model.specs.Tree.{Tree}
use Rattle.model.specs.Edges.{by_letter, by_loop, depth, edges, ends_of, is_back, is_propagate, letter_at, Part, parts, return_at, starts_of, states, union_at, Way}

-- ---- the sets of states that the masks hold
-- "letters: .. bit i+1 where a letter edge i to i+1 takes the byte"; "repeats: likewise, the bit of each loop"
abbrev pub letters : Tree → ℕ → ℕ → Bool
letters t b x = any (λ e. by_letter b e.kind && eqb x e.to) (edges t)

abbrev pub repeats : Tree → ℕ → ℕ → Bool
repeats t b x = any (λ e. by_loop b e.kind && eqb x e.to) (edges t)

-- some union at depth k passes the test f of its start, its alternatives and its end
abbrev pub union_test : ℕ → (ℕ → List Way → ℕ → Bool) → Part → Bool
union_test k f (letter_at c r j i) = false
union_test k f (union_at empty j t ws u) = f t ws u && eqb j k
union_test k f (return_at j q r) = false

abbrev pub some_union : Tree → ℕ → (ℕ → List Way → ℕ → Bool) → Bool
some_union t k f = any (union_test k f) (parts t 0 0)

abbrev pub last_start : List Way → ℕ
last_start [] = 0
last_start (a ∷ []) = a.0
last_start (a ∷ b ∷ ws) = last_start (b ∷ ws)

abbrev pub first_end : List Way → ℕ
first_end [] = 0
first_end (a ∷ ws) = a.1

-- scatter: "block (last alternative's start, plus 1), source (union starts), target (alternative starts)"
abbrev pub scatter_block : Tree → ℕ → ℕ → Bool
scatter_block t k x = some_union t k (λ start ws close. eqb x (suc (last_start ws)))

abbrev pub scatter_source : Tree → ℕ → ℕ → Bool
scatter_source t k x = some_union t k (λ start ws close. eqb x start)

abbrev pub scatter_target : Tree → ℕ → ℕ → Bool
scatter_target t k x = some_union t k (λ start ws close. within x (starts_of ws))

-- gather: "block (every state from the first alternative's end to the union's end less 1), source (alternative ends), target (union ends)"
abbrev pub gather_block : Tree → ℕ → ℕ → Bool
gather_block t k x = some_union t k (λ start ws close. leb (first_end ws) x && ltb x close)

abbrev pub gather_source : Tree → ℕ → ℕ → Bool
gather_source t k x = some_union t k (λ start ws close. within x (ends_of ws))

abbrev pub gather_target : Tree → ℕ → ℕ → Bool
gather_target t k x = some_union t k (λ start ws close. eqb x close)

-- a propagate edge at depth k starts in x; one ends in x
abbrev pub leaves : Tree → ℕ → ℕ → Bool
leaves t k x = any (λ e. (is_propagate e.kind && eqb x e.from) && eqb e.level k) (edges t)

abbrev pub enters : Tree → ℕ → ℕ → Bool
enters t k x = any (λ e. (is_propagate e.kind && eqb x e.to) && eqb e.level k) (edges t)

-- propagate: "A block is a maximal chain of propagate edges at that depth: all its states, its smallest, its largest." Edges rise and no two of
-- a depth start or end in one state, so a chain's smallest state is the one that no edge enters, its largest the one that none leaves.
abbrev pub propagate_block : Tree → ℕ → ℕ → Bool
propagate_block t k x = leaves t k x || enters t k x

abbrev pub propagate_source : Tree → ℕ → ℕ → Bool
propagate_source t k x = leaves t k x && not (enters t k x)

abbrev pub propagate_target : Tree → ℕ → ℕ → Bool
propagate_target t k x = enters t k x && not (leaves t k x)

-- back: "the back edges as two masks, source and target" (document 02, Wish 12)
abbrev pub back_source : Tree → ℕ → ℕ → Bool
back_source t k x = any (λ e. (is_back e.kind && eqb x e.from) && eqb e.level k) (edges t)

abbrev pub back_target : Tree → ℕ → ℕ → Bool
back_target t k x = any (λ e. (is_back e.kind && eqb x e.to) && eqb e.level k) (edges t)

-- ---- the words
-- "State i is bit i mod 64 of word i/64 (whole part), low word first": the w low words of a number
abbrev pub words : ℕ → ℕ → List ℕ
words zero n = []
words (suc w) n = n % 2 ^ 64 ∷ words w (n / 2 ^ 64)

-- "W is m/64 rounded up"
abbrev pub width : ℕ → ℕ
width m = (m + 63) / 64

-- a mask "in the image its first W words"; "Unused bits are 0."
abbrev pub row : ℕ → (ℕ → Bool) → List ℕ
row m f = words (width m) (mask m f)

-- "each after its count of words"
abbrev pub section : List ℕ → List ℕ
section ws = length ws ∷ ws

-- what f gives for a, a + 1 and so on, n times, one after another
abbrev pub join : ℕ → ℕ → (ℕ → List ℕ) → List ℕ
join zero a f = []
join (suc n) a f = f a ++ join n (suc a) f

-- "Six sections in this order", and "A seventh section .. holds for k from 0 to d-1 the back edges"
abbrev pub image : Tree → List ℕ
image t =
    let m = states t in
    let d = depth t in
    section (m ∷ width m ∷ d ∷ [])
    ++ (section (join 256 0 (λ b. row m (letters t b)))
    ++ (section (join 256 0 (λ b. row m (repeats t b)))
    ++ (section (join d 0 (λ k. row m (scatter_block t k) ++ (row m (scatter_source t k) ++ row m (scatter_target t k))))
    ++ (section (join d 0 (λ k. row m (gather_block t k) ++ (row m (gather_source t k) ++ row m (gather_target t k))))
    ++ (section (join (suc d) 0 (λ k. row m (propagate_block t k) ++ (row m (propagate_source t k) ++ row m (propagate_target t k))))
    ++ section (join d 0 (λ k. row m (back_source t k) ++ row m (back_target t k))))))))
