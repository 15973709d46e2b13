-- WHAT A STATE REACHES, WHAT A BYTE ENTERS AND WHAT IT LEAVES: as words, and of words that are an image in the terms of document 01.
use Rattle.std.specs.Prelude.{◌≡◌, false, List, [], ◌∷◌, ℕ, ◌+◌, ◌*◌, ◌/◌, ◌%◌, ◌^◌, ◌≤◌, ◌<◌, T, get_or}
use Rattle.model.specs.Answers.{ImageOf}
use Rattle.model.specs.Bits.{bit}
use Rattle.model.specs.Edges.{states}
use Rattle.model.specs.Live.{Takes}
use Rattle.model.specs.Models.Sections.{depth_word, letter_place, repeat_place}
use Rattle.model.specs.Models.Run.{close_words, move_words}
use Rattle.model.specs.Models.Words.{and_words, or_words, put_bit, value}
use Rattle.model.specs.Tree.{Tree}
use Rattle.model.specs.Spelling.{Reaches}
use Rattle.image_sections.specs.Sections.{width_of}
use Rattle.run.specs.Says.{StatesAre}
use Rattle.run.specs.Work.{masks_of, no_words, row_at, Tabled}

-- each state back by one: the lowest bit of each word goes into the one before
abbrev pub unshift_words : List ℕ → List ℕ
unshift_words [] = []
unshift_words (x ∷ xs) = (x / 2 + get_or xs 0 0 % 2 * 2 ^ 63) ∷ unshift_words xs

-- the masks of work of words
abbrev pub WorkOf : List ℕ → List (List ℕ) → Type 0
WorkOf ws table = Tabled ws (width_of ws) (depth_word ws) table

-- ---- as words
abbrev pub reach_words : List ℕ → ℕ → List ℕ
reach_words ws q = close_words (masks_of ws) (depth_word ws) (put_bit no_words q)

abbrev pub letters_of : List ℕ → ℕ → List ℕ
letters_of ws b = let W = width_of ws in row_at ws (letter_place W b) W

abbrev pub repeats_of : List ℕ → ℕ → List ℕ
repeats_of ws b = let W = width_of ws in row_at ws (repeat_place W b) W

abbrev pub enter_words : List ℕ → ℕ → List ℕ → List ℕ
enter_words ws b live = move_words (letters_of ws b) (repeats_of ws b) no_words live

abbrev pub leave_words : List ℕ → ℕ → List ℕ → List ℕ
leave_words ws b set = or_words (unshift_words (and_words set (letters_of ws b))) (and_words set (repeats_of ws b))

-- ---- of an image: the words have all that state q reaches without a letter
abbrev pub ReachSays : List ℕ → ℕ → List ℕ → Type 0
ReachSays image q words = (t : Tree) → ImageOf image t → q < states t → StatesAre t words (Reaches t q)

-- a mask of the tree's states
abbrev pub Inside : Tree → List ℕ → Type 0
Inside t words = (q : ℕ) → states t ≤ q → bit (value words) q ≡ false

-- the states that a letter edge or loop taking the byte enters from those of a mask; and those that one leaves into them
abbrev pub EnterSays : List ℕ → ℕ → (live words : List ℕ) → Type 0
EnterSays image byte live words =
    (t : Tree) → ImageOf image t → Inside t live → StatesAre t words (λ r. (q : ℕ) × T (bit (value live) q) × Takes t byte q r)

abbrev pub LeaveSays : List ℕ → ℕ → (set words : List ℕ) → Type 0
LeaveSays image byte set words =
    (t : Tree) → ImageOf image t → Inside t set → StatesAre t words (λ q. (r : ℕ) × T (bit (value set) r) × Takes t byte q r)
