-- THE WORKED EXAMPLES OF DOCUMENT 01 ("Measured examples"), and some of document 02's optional and repeated groups (Wishes 3 and 12), the dot (Wish 4),
-- places (Wish 2) and spellings (Wish 9), as rows of a rule and what is claimed of it.
-- Nothing here is believed: proofs/Examples.antt proves every row.
use Rattle.std.specs.Prelude.{◌≡◌, Bool, List, [], ◌∷◌, ◌++◌, ℕ, replicate}
use Prim.Native.String.{String}
use Rattle.model.specs.Bits.{mask}
use Rattle.model.specs.Bytes.{bytes}
use Rattle.model.specs.Tree.{Tree}
use Rattle.model.specs.Grammar.{IsRule}
use Rattle.model.specs.Writing.{writing}
use Rattle.model.specs.Edges.{states}
use Rattle.model.specs.Ends.{EndsAre}
use Rattle.model.specs.Image.{back_source, back_target, gather_block, gather_source, gather_target, image, propagate_block, propagate_source, propagate_target, scatter_block, scatter_source, scatter_target}
use Rattle.model.specs.Answers.{BuildSays, refused_at}
use Rattle.model.specs.Spelling.{Latest, Spelled}

-- what a row may claim of the tree of an accepted rule; masks as numbers: block, source, target at depth k; of back edges source and target
pub data Claim : Type 0 where
  is_written : String → Claim
  has_states : ℕ → Claim
  scatter_at gather_at propagate_at : (k block source target : ℕ) → Claim
  return_at : (k source target : ℕ) → Claim
  has_ends : (text : String) (places : List ℕ) → Claim
  has_image : (words : List ℕ) → Claim
  is_spelled_by is_not_spelled_by : (text : String) (start end : ℕ) (states : List ℕ) → Claim
  has_latest : (text : String) (end start : ℕ) → Claim
  has_no_start : (text : String) (end : ℕ) → Claim

abbrev pub Masks : Tree → (block source target : ℕ → ℕ → Bool) → (k b s g : ℕ) → Type 0
Masks t block source target k b s g = (mask (states t) (block k) ≡ b) × (mask (states t) (source k) ≡ s) × (mask (states t) (target k) ≡ g)

abbrev pub Holds : Tree → Claim → Type 0
Holds t (is_written w) = writing t ≡ bytes w
Holds t (has_states m) = states t ≡ m
Holds t (scatter_at k b s g) = Masks t (scatter_block t) (scatter_source t) (scatter_target t) k b s g
Holds t (gather_at k b s g) = Masks t (gather_block t) (gather_source t) (gather_target t) k b s g
Holds t (propagate_at k b s g) = Masks t (propagate_block t) (propagate_source t) (propagate_target t) k b s g
Holds t (return_at k s g) = (mask (states t) (back_source t k) ≡ s) × (mask (states t) (back_target t k) ≡ g)
Holds t (has_ends text places) = EndsAre t (bytes text) places
Holds t (has_image words) = image t ≡ words
Holds t (is_spelled_by text start end list) = Spelled t (bytes text) start end list
Holds t (is_not_spelled_by text start end list) = Spelled t (bytes text) start end list → ⊥
Holds t (has_latest text end start) = Latest t (bytes text) start end
Holds t (has_no_start text end) = (start : ℕ) (list : List ℕ) → Spelled t (bytes text) start end list → ⊥

infix 90 ◌⊨◌
pub data Row : Type 0 where
  ◌⊨◌ : String → Claim → Row
  refused_with2 : String → (place : ℕ) → Row

-- a row is right: its rule has a tree of which the claim holds, or build refuses it with 2 at this place, whatever was lent
abbrev pub Right : Row → Type 0
Right (rule ⊨ claim) = (t : Tree) × IsRule (bytes rule) t × Holds t claim
Right (refused_with2 rule p) = (before : List ℕ) → BuildSays (bytes rule) before (refused_at p 2 before)

-- the examples that document 01 marks P, in its order; `(a)*`, the last but one of them, is a rule since Wish 12 (`repeated_groups`)
abbrev pub marked : List Row
marked =
    "a" ⊨ has_ends "aba" (1 ∷ 3 ∷ [])
    ∷ "b?" ⊨ has_ends "" (0 ∷ [])
    ∷ "b?" ⊨ has_ends "ab" (0 ∷ 1 ∷ 2 ∷ [])
    ∷ "a{2,3}" ⊨ is_written "a?aa"
    ∷ "a{2,3}" ⊨ has_ends "aaaa" (2 ∷ 3 ∷ 4 ∷ [])
    ∷ "[AB]+B.{1,3}[BC]?.*C" ⊨ has_states 9
    ∷ "[AB]+B.{1,3}[BC]?.*C" ⊨ has_ends "ABCBBC" (6 ∷ [])
    ∷ "[AB]+B.{1,3}[BC]?.*C" ⊨ has_ends "ABCBCC" (5 ∷ 6 ∷ [])
    ∷ "A(BA|CD)(CD|AB)B" ⊨ has_states 17
    ∷ "A(BA|CD)(CD|AB)B" ⊨ has_ends "ABACDB" (6 ∷ [])
    ∷ "A(BA|CD)(CD|AB)B" ⊨ scatter_at 0 8256 258 4644
    ∷ "A(BA|CD)(CD|AB)B" ⊨ gather_at 0 30960 18576 33024
    ∷ "A(AB|B?)(B?.*|AB)C" ⊨ has_ends "AC" (2 ∷ [])
    ∷ "A(AB|B?)(B?.*|AB)C" ⊨ has_states 16
    ∷ "A(AB|B?)(B?.*|AB)C" ⊨ propagate_at 0 16514 2 16384
    ∷ "A(AB|B?)(B?.*|AB)C" ⊨ propagate_at 1 1888 288 1088
    ∷ "((ab))" ⊨ is_written "ab"
    ∷ "a|b" ⊨ is_written "(a|b)"
    ∷ "a|b" ⊨ has_states 6
    ∷ "((a|b)|c)" ⊨ is_written "((a|b)|c)"
    ∷ "[ba]" ⊨ is_written "[a-b]"
    ∷ refused_with2 "" 0
    ∷ refused_with2 "()" 1
    ∷ refused_with2 "a||b" 2
    ∷ refused_with2 "[c-ab]" 3
    ∷ []

-- document 02, Wish 3: which groups keep their `?`, and what the edge over them does
abbrev pub optional_groups : List Row
optional_groups =
    "(flush|drain)?" ⊨ is_written "(flush|drain)?"
    ∷ "(flush|drain)?" ⊨ has_states 14
    ∷ "(flush|drain)?" ⊨ scatter_at 0 256 1 130
    ∷ "(flush|drain)?" ⊨ gather_at 0 8128 4160 8192
    ∷ "(flush|drain)?" ⊨ propagate_at 0 8193 1 8192
    ∷ "(flush|drain)?" ⊨ propagate_at 1 0 0 0
    ∷ "(flush|drain)?" ⊨ has_ends "drain" (0 ∷ 1 ∷ 2 ∷ 3 ∷ 4 ∷ 5 ∷ [])
    ∷ "x(fl|dr)?y" ⊨ has_ends "xyxdryx" (2 ∷ 6 ∷ [])
    ∷ "x(ab)?y" ⊨ is_spelled_by "xy" 0 2 (1 ∷ 6 ∷ [])
    ∷ "(ab)?" ⊨ is_written "(ab)?"
    ∷ "(ab)?" ⊨ has_states 5
    ∷ "(ab)?" ⊨ propagate_at 0 17 1 16
    ∷ "(ab)?" ⊨ has_ends "ab" (0 ∷ 1 ∷ 2 ∷ [])
    ∷ "(a?)?" ⊨ is_written "a?"
    ∷ "(a?)?" ⊨ has_states 2
    ∷ "(a)?" ⊨ is_written "(a)?"
    ∷ "((ab))?" ⊨ is_written "(ab)?"
    ∷ "((a|b))?" ⊨ is_written "((a|b))?"
    ∷ "((a|b))?" ⊨ has_states 8
    ∷ "(a|b)?" ⊨ is_written "(a|b)?"
    ∷ "(a|b)?" ⊨ has_states 6
    ∷ "x(a?b?)?y" ⊨ is_written "xa?b?y"
    ∷ "(a?|b)?" ⊨ is_written "(a?|b)"
    ∷ "((ab)?)?" ⊨ is_written "(ab)?"
    ∷ "((ab)?|c)?" ⊨ is_written "((ab)?|c)"
    ∷ "(a{,2})?" ⊨ is_written "a?a?"
    ∷ refused_with2 "(a)??" 4
    ∷ []

-- document 02, Wish 12: groups with `*` and `+`, their states, and what their back edges do
abbrev pub repeated_groups : List Row
repeated_groups =
    "(a)*" ⊨ is_written "(a)*"
    ∷ "(a)*" ⊨ has_states 4
    ∷ "(ab)*" ⊨ is_written "(ab)*"
    ∷ "(ab)*" ⊨ has_states 5
    ∷ "(ab)*" ⊨ return_at 0 8 2
    ∷ "(ab)*" ⊨ propagate_at 0 17 1 16
    ∷ "(ab)*" ⊨ has_ends "ab" (0 ∷ 1 ∷ 2 ∷ [])
    ∷ "x(ab)*y" ⊨ has_ends "xyxababy" (2 ∷ 8 ∷ [])
    ∷ "x(ab)*y" ⊨ is_spelled_by "xababy" 0 6 (1 ∷ 3 ∷ 4 ∷ 3 ∷ 4 ∷ 6 ∷ [])
    ∷ "x(ab)*y" ⊨ is_not_spelled_by "xababy" 0 6 (1 ∷ 3 ∷ 4 ∷ 5 ∷ 4 ∷ 6 ∷ [])
    ∷ "x(ab)*y" ⊨ has_latest "xxababy" 7 1
    ∷ "(a|b)*" ⊨ is_written "((a|b))*"
    ∷ "(a|b)*" ⊨ has_states 8
    ∷ "(a|b)*" ⊨ return_at 0 64 2
    ∷ "(a|b)*" ⊨ has_ends "cab" (0 ∷ 1 ∷ 2 ∷ 3 ∷ [])
    ∷ "x(a|b)*y" ⊨ has_ends "xabay" (5 ∷ [])
    ∷ "(ab)+" ⊨ is_written "ab(ab)*"
    ∷ "(a|b)+" ⊨ is_written "(a|b)((a|b))*"
    ∷ "(a|b)+" ⊨ has_states 13
    ∷ "(a|b)+" ⊨ return_at 0 2048 64
    ∷ "(a|b)+" ⊨ has_ends "cab" (2 ∷ 3 ∷ [])
    ∷ "x(a|b)+y" ⊨ has_ends "xyxaby" (6 ∷ [])
    ∷ "(a?)+" ⊨ is_written "a?(a?)*"
    ∷ "(a?)+" ⊨ has_states 5
    ∷ "(a?)+" ⊨ return_at 0 8 4
    ∷ "(a?)+" ⊨ has_ends "ba" (0 ∷ 1 ∷ 2 ∷ [])
    ∷ "x(a?)+y" ⊨ has_ends "xyxaaay" (2 ∷ 7 ∷ [])
    ∷ "((a)+)+" ⊨ is_written "a(a)*(a(a)*)*"
    ∷ "((a)+)+" ⊨ has_states 11
    ∷ "((a)+)+" ⊨ return_at 0 520 36
    ∷ "((a)+)+" ⊨ return_at 1 256 128
    ∷ "((a)+)+" ⊨ has_ends "baa" (2 ∷ 3 ∷ [])
    -- the second round leads on through the first round's body
    ∷ "((ab)*c?)*y" ⊨ has_ends "babcaby" (7 ∷ [])
    ∷ "((ab)*)*" ⊨ is_written "((ab)*)*"
    ∷ "((ab)*)?" ⊨ is_written "(ab)*"
    ∷ "((ab)?)*" ⊨ is_written "((ab)?)*"
    ∷ "(((((((a)+)+)+)+)+)+)+" ⊨ has_states 383
    ∷ refused_with2 "(a)**" 4
    ∷ refused_with2 "(a)*?" 4
    ∷ refused_with2 "(a)+?" 4
    ∷ refused_with2 "(a){2}" 3
    ∷ []

-- document 02, Wish 4: the dot takes every byte but 10, and which classes are written as it
abbrev pub dots : List Row
dots =
    "." ⊨ is_written "."
    ∷ "[\\x00-\\x09\\x0B-\\xFF]" ⊨ is_written "."
    ∷ "[\\x00-\\xFF]" ⊨ is_written "[\\x00-\\xFF]"
    ∷ "[\\x0A-\\xFF\\x00-\\x09]" ⊨ is_written "[\\x00-\\xFF]"
    ∷ "[\\x00-\\x08\\x0A-\\xFF]" ⊨ is_written "[\\x00-\\x08\\x0A-\\xFF]"
    ∷ "(.|\\x0A)" ⊨ is_written "(.|\\x0A)"
    ∷ "\\.[\\.]" ⊨ is_written "\\.\\."
    ∷ "." ⊨ has_ends "a\nb" (1 ∷ 3 ∷ [])
    -- Monday to Tuesday
    ∷ "O.*S" ⊨ has_ends "OPS\nOP\nS" (3 ∷ [])
    ∷ "O[\\x00-\\xFF]*S" ⊨ has_ends "OPS\nOP\nS" (3 ∷ 8 ∷ [])
    ∷ []

-- document 02, Wish 2: places, its own three first; then what numbers, ranges, escapes and groups can still become
abbrev pub places : List Row
places =
    refused_with2 "" 0
    ∷ refused_with2 "a||b" 2
    ∷ refused_with2 "(a" 2
    ∷ refused_with2 "a{0}" 3
    ∷ refused_with2 "a{0,0" 4
    ∷ refused_with2 "a{,0" 3
    ∷ refused_with2 "a{00}" 3
    ∷ refused_with2 "a{3,2}" 5
    ∷ refused_with2 "a{30,20}" 7
    ∷ refused_with2 "a{300,2" 6
    ∷ refused_with2 "a{300,3" 7
    ∷ refused_with2 "a{10,0" 5
    ∷ refused_with2 "a{10,1" 6
    ∷ refused_with2 "a{999,98" 7
    ∷ refused_with2 "a{999,99" 8
    ∷ refused_with2 "a{1000}" 5
    ∷ refused_with2 "a{12x" 4
    ∷ refused_with2 "a{999" 5
    ∷ refused_with2 "[c-a" 3
    ∷ refused_with2 "[c-ab]" 3
    ∷ refused_with2 "[c-\\" 4
    ∷ refused_with2 "[c-\\-" 4
    ∷ refused_with2 "[c-\\|" 5
    ∷ refused_with2 "[c-\\x5" 5
    ∷ refused_with2 "[c-\\x6" 6
    ∷ refused_with2 "[c-\\x62]" 6
    ∷ refused_with2 "[\\xFF-\\" 7
    ∷ refused_with2 "[\\xFF-\\xE" 8
    ∷ refused_with2 "\\" 1
    ∷ refused_with2 "\\x" 2
    ∷ refused_with2 "\\x4" 3
    ∷ refused_with2 "\\xg" 2
    ∷ refused_with2 "\\X" 1
    ∷ refused_with2 "a??" 2
    ∷ refused_with2 "a{2" 3
    ∷ refused_with2 "[a" 2
    ∷ refused_with2 "a|" 2
    ∷ refused_with2 "(a)??" 4
    ∷ refused_with2 "(a){" 3
    ∷ refused_with2 "a)" 1
    ∷ refused_with2 "a\n" 1
    ∷ []

-- further examples: those that document 01 lists without the mark and a checker can compute, and doubtful points
abbrev pub further : List Row
further =
    "a" ⊨ has_image (3 ∷ 2 ∷ 1 ∷ 0 ∷ 256 ∷ (replicate 97 0 ++ (2 ∷ (replicate 158 0 ++ (256 ∷ (replicate 256 0 ++ (0 ∷ 0 ∷ 3 ∷ 0 ∷ 0 ∷ 0 ∷ 0 ∷ [])))))))
    ∷ "a?bc?" ⊨ propagate_at 0 15 5 10
    ∷ "((a|b)|c)" ⊨ has_states 10
    ∷ "a(b?|c)d" ⊨ has_ends "ad" (2 ∷ [])
    ∷ "[z-\\xFF\\-b-ea]" ⊨ is_written "[\\-a-ez-\\xFF]"
    ∷ "\\x0a-\\x41[\\x00-\\xff]" ⊨ is_written "\\x0A\\-A[\\x00-\\xFF]"
    ∷ "[^a]{1}$" ⊨ is_written "[^a]$"
    ∷ refused_with2 "a{0}" 3
    ∷ refused_with2 "a{3,}" 4
    ∷ refused_with2 "a\n" 1
    ∷ refused_with2 "[a-]" 3
    ∷ refused_with2 "[.]" 1
    ∷ refused_with2 "\\X41" 1
    ∷ refused_with2 "a?*" 2
    ∷ []

-- spellings: a text, a start, an end and the states that the bytes between them enter, right and wrong; and for an end the latest start
abbrev pub spellings : List Row
spellings =
    -- the first step is the edge into 1 or the loop there, which 0 reaches without a letter
    "a*" ⊨ is_spelled_by "aa" 0 2 (1 ∷ 1 ∷ [])
    -- a rule that can be empty: no bytes and no states
    ∷ "a*" ⊨ is_spelled_by "aa" 1 1 []
    ∷ "a*" ⊨ has_latest "aa" 2 2
    -- nothing enters state 0, and there is no state 2
    ∷ "a*" ⊨ is_not_spelled_by "aa" 0 2 (0 ∷ 1 ∷ [])
    ∷ "a*" ⊨ is_not_spelled_by "aa" 0 2 (1 ∷ 2 ∷ [])
    -- a state too few, one too many, a start past the end, an end past the text
    ∷ "a*" ⊨ is_not_spelled_by "aa" 0 2 (1 ∷ [])
    ∷ "a*" ⊨ is_not_spelled_by "aa" 1 2 (1 ∷ 1 ∷ [])
    ∷ "a*" ⊨ is_not_spelled_by "aa" 2 1 []
    ∷ "a*" ⊨ is_not_spelled_by "aa" 1 3 (1 ∷ 1 ∷ [])
    -- several starts for one end, the latest of them 2
    ∷ "a+b" ⊨ is_spelled_by "aaab" 0 4 (1 ∷ 1 ∷ 1 ∷ 2 ∷ [])
    ∷ "a+b" ⊨ is_spelled_by "aaab" 2 4 (1 ∷ 2 ∷ [])
    ∷ "a+b" ⊨ has_latest "aaab" 4 2
    -- the first state is off by one, or the last; the first step leaves a state that 0 does not reach; the last state does not reach the accepting one
    ∷ "a+b" ⊨ is_not_spelled_by "aaab" 2 4 (2 ∷ 2 ∷ [])
    ∷ "a+b" ⊨ is_not_spelled_by "aaab" 2 4 (1 ∷ 1 ∷ [])
    ∷ "a+b" ⊨ is_not_spelled_by "aaab" 3 4 (2 ∷ [])
    ∷ "a+b" ⊨ is_not_spelled_by "aaab" 0 3 (1 ∷ 1 ∷ 1 ∷ [])
    -- no spelling stops at a place that is no end, or at one past the text
    ∷ "a+b" ⊨ has_no_start "aaab" 3
    ∷ "a+b" ⊨ has_no_start "aaab" 5
    -- through an alternative of each union; over a union that can be empty; a whole text
    ∷ "A(BA|CD)(CD|AB)B" ⊨ is_spelled_by "ABACDB" 0 6 (1 ∷ 3 ∷ 4 ∷ 10 ∷ 11 ∷ 16 ∷ [])
    ∷ "A(AB|B?)(B?.*|AB)C" ⊨ is_spelled_by "AC" 0 2 (1 ∷ 15 ∷ [])
    ∷ "[AB]+B.{1,3}[BC]?.*C" ⊨ has_latest "ABCBBC" 6 0
    ∷ []
