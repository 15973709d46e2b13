-- WHAT THE PARTS SAY: of sets as rows of words, of what reaches a state, and of words that are an image.
use Rattle.std.specs.Prelude.{None, Option, Some, ◌≡◌, ◌⊎◌, ◌↔◌, List, [], ◌∷◌, ℕ, suc, ◌+◌, ◌-◌, ◌*◌, ◌%◌, ◌≤◌, ◌<◌, T, drop, get_or, length, take}
use Rattle.model.specs.Bits.{bit}
use Rattle.model.specs.Answers.{ImageOf}
use Rattle.model.specs.Edges.{states}
use Rattle.model.specs.Models.Words.{value}
use Rattle.model.specs.Tree.{Tree}
use Rattle.model.specs.Models.Leads.{Chain, Leads}
use Rattle.model.specs.Spelling.{between, Follow}
use Rattle.run_edges.specs.Reach.{EnterSays, ReachSays, reach_words}
use Rattle.run.specs.Says.{StatesAre}

-- ---- sets as rows of words
abbrev pub Has : List ℕ → ℕ → Type 0
Has row x = T (bit (value row) x)

abbrev pub WithSays : List ℕ → ℕ → List ℕ → Type 0
WithSays row q r = (x : ℕ) → Has r x ↔ (Has row x ⊎ (x ≡ q))

abbrev pub EitherSays : (a b r : List ℕ) → Type 0
EitherSays a b r = (x : ℕ) → Has r x ↔ (Has a x ⊎ Has b x)

abbrev pub LowestSays : List ℕ → ℕ → Type 0
LowestSays row r = (r < 512) × ((x : ℕ) → Has row x → Has row r)

-- ---- what reaches a state
-- state q is put into the rows of what it reaches
pub record NoteSays (before : List (List ℕ)) (q : ℕ) (reached : List ℕ) (count : ℕ) (after : List (List ℕ)) : Type 0 where
  pub long : length after ≡ length before
  pub rows : (p : ℕ) → p < count → (x : ℕ) → Has (get_or after p []) x ↔ (Has (get_or before p []) x ⊎ ((x ≡ q) × Has reached p))

-- row p has the states below count that reach p
abbrev pub OriginsSays : List ℕ → ℕ → List (List ℕ) → Type 0
OriginsSays image count origins = (p : ℕ) → p < count → (q : ℕ) → Has (get_or origins p []) q ↔ ((q < count) × Has (reach_words image q) p)

-- the origins of the states of one word of a row, and those of all its words
abbrev pub IntoWordSays : List (List ℕ) → (word at : ℕ) (before r : List ℕ) → Type 0
IntoWordSays origins word at before r = (q : ℕ) → Has r q ↔ (Has before q ⊎ ((j : ℕ) × (j < 64) × T (bit word j) × Has (get_or origins (at + j) []) q))

abbrev pub IntoSays : List (List ℕ) → (row r : List ℕ) → Type 0
IntoSays origins row r = (q : ℕ) → Has r q ↔ ((p : ℕ) × Has row p × Has (get_or origins p []) q)

-- ---- the sets that go back from an end
abbrev pub SetOf : Tree → List ℕ → List ℕ → Type 0
SetOf t bytes words = StatesAre t words (Leads t bytes)

abbrev pub SetAt : Tree → List ℕ → (end k : ℕ) → List ℕ → Type 0
SetAt t text end k words = SetOf t (between text k end) words

abbrev pub EndingSays : (image r : List ℕ) → Type 0
EndingSays image r = (t : Tree) → ImageOf image t → SetOf t [] r

abbrev pub BackSays : (image set : List ℕ) (byte : ℕ) (r : List ℕ) → Type 0
BackSays image set byte r = (t : Tree) → ImageOf image t → (bytes : List ℕ) → SetOf t bytes set → SetOf t (byte ∷ bytes) r

-- ---- the latest start
pub record Asked (text : List ℕ) (end : ℕ) : Type 0 where
  pub inside : end ≤ length text
  pub short : length text ≤ 65535

-- the sets of the places from k on, each 256th, are kept
abbrev pub KeptFrom : Tree → List ℕ → (end k : ℕ) → List (List ℕ) → Type 0
KeptFrom t text end k kept = (j : ℕ) → k ≤ 256 * j → 256 * j < end → SetAt t text end (256 * j) (get_or kept j [])

-- no place after k starts a spelling
abbrev pub NoneAfter : Tree → List ℕ → (end k : ℕ) → Type 0
NoneAfter t text end k = (j : ℕ) → k < j → j ≤ end → Leads t (between text j end) 0 → ⊥

abbrev pub Started : Tree → List ℕ → ℕ → List (List ℕ) → Option ℕ → Type 0
Started t text end kept (Some k) = Leads t (between text k end) 0 × NoneAfter t text end k × KeptFrom t text end k kept
Started t text end kept None = (j : ℕ) → j ≤ end → Leads t (between text j end) 0 → ⊥

abbrev pub Within : ℕ → Option ℕ → Type 0
Within end (Some k) = k ≤ end
Within end None = Unit

pub record StartSays (image text : List ℕ) (end : ℕ) (kept : List (List ℕ)) (r : Option ℕ) : Type 0 where
  pub within : Within end r
  pub starts : (t : Tree) → ImageOf image t → Started t text end kept r

-- ---- the states from the start to the end
-- the sets of the places after lo up to hi, that of place j + 1 in row j - lo
abbrev pub SetsOf : Tree → List ℕ → (end lo hi : ℕ) → List (List ℕ) → Type 0
SetsOf t text end lo hi sets = (j : ℕ) → lo ≤ j → j < hi → SetAt t text end (suc j) (get_or sets (j - lo) [])

pub record Stretch (text : List ℕ) (lo hi : ℕ) : Type 0 where
  pub ordered : lo ≤ hi
  pub short : hi ≤ lo + 256
  pub inside : hi ≤ length text

pub record FillSays (image text : List ℕ) (lo hi : ℕ) (set : List ℕ) (sets : List (List ℕ)) : Type 0 where
  pub long : length sets ≡ 256
  pub fills : (t : Tree) → ImageOf image t → (end : ℕ) → hi ≤ end → end ≤ length text → SetAt t text end hi set
      → SetsOf t text end lo hi sets

-- a state that the byte enters from what a state reaches and that is in the set, if there is one
pub record ChooseSays (image : List ℕ) (at : ℕ) (set : List ℕ) (byte r : ℕ) : Type 0 where
  pub state : r < 512
  pub row : List ℕ
  pub reaches : ReachSays image at row
  pub entered : List ℕ
  pub enters : EnterSays image byte row entered
  pub chosen : (x : ℕ) → Has entered x → Has set x → Has entered r × Has set r

-- the first states are written: they lead from 0 to the state `at`, and from there the other bytes lead to the accepting state
pub record Walked (t : Tree) (text : List ℕ) (start end k : ℕ) (list : List ℕ) (at : ℕ) : Type 0 where
  pub state : at < states t
  pub leads : Leads t (between text k end) at
  pub chain : Chain t 0 (between text start k) (take (k - start) list) at

pub record WalkAsks (text : List ℕ) (lo hi from start : ℕ) (list : List ℕ) : Type 0 where
  pub stretch : Stretch text lo hi
  pub state : from < 512
  pub after : start ≤ lo
  pub room : hi - start ≤ length list

pub record WalkSays (image text : List ℕ) (lo hi : ℕ) (sets : List (List ℕ)) (from start : ℕ) (before : List ℕ) (r : ℕ) (after : List ℕ) : Type 0 where
  pub state : r < 512
  pub long : length after ≡ length before
  pub rest : (n : ℕ) → hi - start ≤ n → drop n after ≡ drop n before
  pub walks : (t : Tree) (end : ℕ) → ImageOf image t → hi ≤ end → end ≤ length text → SetsOf t text end lo hi sets
      → Walked t text start end lo before from → Walked t text start end hi after r

-- where a stretch stops
pub record StopSays (k end r : ℕ) : Type 0 where
  pub past : k < r
  pub within : r ≤ end
  pub short : r ≤ k + 256
  pub where_to : (r ≡ end) ⊎ (r % 256 ≡ 0)

abbrev pub SetSays : List ℕ → (end : ℕ) → List (List ℕ) → ℕ → List ℕ → Type 0
SetSays image end kept stop r =
    (t : Tree) (text : List ℕ) (start : ℕ) → ImageOf image t → KeptFrom t text end start kept → start ≤ stop → stop ≤ end
    → (stop ≡ end) ⊎ (stop % 256 ≡ 0) → SetAt t text end stop r

pub record WriteAsks (text : List ℕ) (start end : ℕ) (list : List ℕ) : Type 0 where
  pub asked : Asked text end
  pub ordered : start ≤ end
  pub room : end - start ≤ length list

pub record WriteSays (image text : List ℕ) (start end : ℕ) (kept : List (List ℕ)) (before after : List ℕ) : Type 0 where
  pub long : length after ≡ length before
  pub rest : drop (end - start) after ≡ drop (end - start) before
  pub follows : (t : Tree) → ImageOf image t → KeptFrom t text end start kept → Leads t (between text start end) 0
      → Follow t 0 (between text start end) (take (end - start) after)

-- ---- the whole: a tree's image, and an end in a text that is not too long
pub record ProposeAsks (image text : List ℕ) (end : ℕ) : Type 0 where
  pub tree : Tree
  pub image_of : ImageOf image tree
  pub inside : end ≤ length text
  pub short : length text ≤ 65535
