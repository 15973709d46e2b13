-- NUMBERS GIVEN BACK (document 01): for each operation the table's rows in their order, each with number, place, count and the whole content of what was lent.
use Rattle.std.specs.Prelude.{◌≡◌, List, ◌++◌, ℕ, ◌≤◌, ◌<◌, length, take, drop}
use Rattle.model.specs.Tree.{Tree}
use Rattle.model.specs.Grammar.{IsRule}
use Rattle.model.specs.Writing.{writing}
use Rattle.model.specs.Edges.{depth, states}
use Rattle.model.specs.Ends.{EndsAre}
use Rattle.model.specs.Image.{image}
use Rattle.model.specs.Place.{PlaceIs}

-- an answer: its number, its place, what it gives by value, and all that was lent as it is afterwards
pub record Answer (Given Lent : Type 0) : Type 0 where
  pub number : ℕ
  pub place : ℕ
  pub given : Given
  pub lent : Lent

-- "With 2 the builder shall also give a place .. All other answers carry place 0" (document 02, Wish 2).
-- done: what is given, and what was lent as it is now
abbrev pub gives : {Given Lent : Type 0} → Given → Lent → Answer Given Lent
gives given after = record { number = 0; place = 0; given = given; lent = after }

-- a refusal gives nothing, and what was lent stays as it was
abbrev pub refusal_at : {Given Lent : Type 0} → (nothing : Given) → (place : ℕ) → ℕ → Lent → Answer Given Lent
refusal_at nothing p n before = record { number = n; place = p; given = nothing; lent = before }

abbrev pub refusal : {Given Lent : Type 0} → (nothing : Given) → ℕ → Lent → Answer Given Lent
refusal nothing = refusal_at nothing 0

-- "Any refusal gives count 0 and changes nothing."
abbrev pub refused_at : {Lent : Type 0} → (place : ℕ) → ℕ → Lent → Answer ℕ Lent
refused_at p n before = refusal_at 0 p n before

abbrev pub refused : {Lent : Type 0} → ℕ → Lent → Answer ℕ Lent
refused n before = refusal 0 n before

-- build, read back and match give a count, and are lent one list
abbrev pub Counted : Type 0
Counted = Answer ℕ (List ℕ)

-- "Done" gives the length of the whole; what fits of it is written. "Words or bytes past what is written stay as they were."
abbrev pub done : List ℕ → List ℕ → Counted
done whole before = gives (length whole) (take (length before) whole ++ drop (length whole) before)

-- and so much of what was lent is its result
abbrev pub result_of : Counted → List ℕ
result_of a = take a.given a.lent

-- BUILD, from rule bytes into lent words
pub data BuildSays (rule before : List ℕ) (a : Counted) : Type 0 where
  rule_too_long : 1024 < length rule → a ≡ refused 1 before → BuildSays rule before a
  not_a_rule : (p : ℕ) → length rule ≤ 1024 → ((t : Tree) → IsRule rule t → ⊥) → PlaceIs rule p → a ≡ refused_at p 2 before → BuildSays rule before a
  too_many_states : (t : Tree) → length rule ≤ 1024 → IsRule rule t → 512 < states t → a ≡ refused 3 before → BuildSays rule before a
  too_deep : (t : Tree) → length rule ≤ 1024 → IsRule rule t → states t ≤ 512 → 8 < depth t → a ≡ refused 4 before → BuildSays rule before a
  no_room : (t : Tree) → length rule ≤ 1024 → IsRule rule t → states t ≤ 512 → depth t ≤ 8 → length before < length (image t)
      → a ≡ refused 5 before → BuildSays rule before a
  built : (t : Tree) → length rule ≤ 1024 → IsRule rule t → states t ≤ 512 → depth t ≤ 8 → length (image t) ≤ length before
      → a ≡ done (image t) before → BuildSays rule before a

-- "the image of a tree within 512 states and depth 8"; "a tree is that of any rule in the grammar, however long the rule"
pub record ImageOf (words : List ℕ) (t : Tree) : Type 0 where
  pub rule : List ℕ
  pub is_rule : IsRule rule t
  pub few : states t ≤ 512
  pub shallow : depth t ≤ 8
  pub laid : words ≡ image t

abbrev pub NoImage : List ℕ → Type 0
NoImage words = (t : Tree) → ImageOf words t → ⊥

-- READ BACK, from image words into lent bytes
pub data ReadBackSays (words before : List ℕ) (a : Counted) : Type 0 where
  not_an_image : NoImage words → a ≡ refused 6 before → ReadBackSays words before a
  no_room : (t : Tree) → ImageOf words t → length before < length (writing t) → a ≡ refused 8 before → ReadBackSays words before a
  written : (t : Tree) → ImageOf words t → length (writing t) ≤ length before → a ≡ done (writing t) before → ReadBackSays words before a

-- MATCH, from image words and text bytes into lent places. "Match writes the first ends that fit; a short list is no refusal."
pub data MatchSays (words text before : List ℕ) (a : Counted) : Type 0 where
  not_an_image : NoImage words → a ≡ refused 6 before → MatchSays words text before a
  text_too_long : (t : Tree) → ImageOf words t → 65535 < length text → a ≡ refused 7 before → MatchSays words text before a
  matched : (t : Tree) (ends : List ℕ) → ImageOf words t → length text ≤ 65535 → EndsAre t text ends → a ≡ done ends before → MatchSays words text before a
