-- SPELLINGS (Wish 9): "a start place, an end place, and for each byte between them the state entered by that byte's letter edge or loop".
use Rattle.std.specs.Prelude.{◌≡◌, Bool, true, false, List, [], ◌∷◌, ◌++◌, ℕ, ◌-◌, ◌≤◌, ◌<◌, length, take, drop}
use Rattle.model.specs.Tree.{Tree}
use Rattle.model.specs.Edges.{accepting}
use Rattle.model.specs.Live.{Free, Reached, Takes}
use Rattle.model.specs.Ends.{End}
use Rattle.model.specs.Answers.{Answer, gives, ImageOf, NoImage, refusal}

-- a state "reached so", without a letter, from q
abbrev pub Reaches : Tree → ℕ → ℕ → Type 0
Reaches t q = Reached (Free t) (λ x. x ≡ q)

-- the states after q, one for each byte: "each is entered by an edge or loop taking its byte, the first step leaves a state that 0 reaches without a
-- letter, each next step leaves a state reached so from the one before, and the last (or 0, for no bytes) so reaches the accepting state"
abbrev pub Follow : Tree → ℕ → (bytes states : List ℕ) → Type 0
Follow t q [] [] = Reaches t q (accepting t)
Follow t q [] (r ∷ rs) = ⊥
Follow t q (b ∷ bs) [] = ⊥
Follow t q (b ∷ bs) (r ∷ rs) = ((p : ℕ) × Reaches t q p × Takes t b p r) × Follow t r bs rs

-- the bytes of a text from one place to another
abbrev pub between : List ℕ → (start end : ℕ) → List ℕ
between text start end = take (end - start) (drop start text)

-- a proposal that gets yes: "the places lie in the text with start at most end, the list has one state per byte", and the states follow 0
pub record Spelled (t : Tree) (text : List ℕ) (start end : ℕ) (states : List ℕ) : Type 0 where
  pub inside : end ≤ length text
  pub ordered : start ≤ end
  pub each : length states ≡ end - start
  pub follow : Follow t 0 (between text start end) states

-- "chooses the latest start": a proposal for the end has that start, and none has a later one
pub record Latest (t : Tree) (text : List ℕ) (start end : ℕ) : Type 0 where
  pub some : (states : List ℕ) × Spelled t text start end states
  pub none_later : (later : ℕ) (states : List ℕ) → Spelled t text later end states → later ≤ start

-- CHECK: "After 6 and 7 a small checker says yes exactly if .."; nothing is lent to be changed
abbrev pub Judgement : Type 0
Judgement = Answer Bool (Unit {0})

abbrev pub says : Bool → Judgement
says b = gives b tt

pub data CheckSays (words text : List ℕ) (start end : ℕ) (states : List ℕ) (a : Judgement) : Type 0 where
  not_an_image : NoImage words → a ≡ refusal false 6 tt → CheckSays words text start end states a
  text_too_long : (t : Tree) → ImageOf words t → 65535 < length text → a ≡ refusal false 7 tt → CheckSays words text start end states a
  right : (t : Tree) → ImageOf words t → length text ≤ 65535 → Spelled t text start end states → a ≡ says true → CheckSays words text start end states a
  wrong : (t : Tree) → ImageOf words t → length text ≤ 65535 → (Spelled t text start end states → ⊥) → a ≡ says false
      → CheckSays words text start end states a

-- what the proposer gives: the start, and how many states; lent is the list for them
pub record Stretch : Type 0 where
  pub start : ℕ
  pub count : ℕ

abbrev pub Proposal : Type 0
Proposal = Answer Stretch (List ℕ)

-- a refusal has start 0 and count 0
abbrev pub proposes_none : ℕ → List ℕ → Proposal
proposes_none = refusal (record { start = 0; count = 0 })

abbrev pub proposes : (start count : ℕ) → List ℕ → Proposal
proposes start count after = gives (record { start = start; count = count }) after

-- PROPOSE: "After 6 and 7 it refuses a place that is no end with 16, then a lent list shorter than the stretch with 17, and nothing else."
-- "its choice of states is free": any that get yes; the list's other places stay as they were.
pub data ProposeSays (words text : List ℕ) (end : ℕ) (before : List ℕ) (a : Proposal) : Type 0 where
  not_an_image : NoImage words → a ≡ proposes_none 6 before → ProposeSays words text end before a
  text_too_long : (t : Tree) → ImageOf words t → 65535 < length text → a ≡ proposes_none 7 before → ProposeSays words text end before a
  no_end : (t : Tree) → ImageOf words t → length text ≤ 65535 → (End t text end → ⊥) → a ≡ proposes_none 16 before → ProposeSays words text end before a
  no_room : (t : Tree) (start : ℕ) → ImageOf words t → length text ≤ 65535 → Latest t text start end → length before < end - start
      → a ≡ proposes_none 17 before → ProposeSays words text end before a
  proposed : (t : Tree) (start : ℕ) (states : List ℕ) → ImageOf words t → length text ≤ 65535 → Latest t text start end → end - start ≤ length before
      → Spelled t text start end states → a ≡ proposes start (end - start) (states ++ drop (end - start) before) → ProposeSays words text end before a
