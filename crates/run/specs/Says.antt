-- WHAT THE PUBLIC FUNCTIONS SAY OF WORDS THAT ARE AN IMAGE, in the terms of document 01.
use Rattle.std.specs.Prelude.{◌≡◌, ◌↔◌, false, List, ℕ, ◌≤◌, ◌<◌, T, length, take}
use Rattle.model.specs.Answers.{done, ImageOf}
use Rattle.model.specs.Bits.{bit}
use Rattle.model.specs.Edges.{states}
use Rattle.model.specs.Ends.{EndsAre}
use Rattle.model.specs.Image.{width}
use Rattle.model.specs.Live.{Before, LiveFrom}
use Rattle.model.specs.Models.Words.{value}
use Rattle.model.specs.Tree.{Tree}
use Rattle.model.specs.Watch.{EndsIn, In, IsMask, MaskOf}

-- the words have exactly the bits of a set of the tree's states
pub record StatesAre (t : Tree) (words : List ℕ) (S : ℕ → Type 0) : Type 0 where
  pub within : (q : ℕ) → q < states t → T (bit (value words) q) ↔ S q
  pub beyond : (q : ℕ) → states t ≤ q → bit (value words) q ≡ false

-- "The live states before any byte"
abbrev pub BeginSays : (image words : List ℕ) → Type 0
BeginSays image words = (t : Tree) → ImageOf image t → StatesAre t words (Before t)

-- the total of the ends, and the first that fit written, rising; "Words or bytes past what is written stay as they were"
abbrev pub FindSays : (image text before : List ℕ) (total : ℕ) (after : List ℕ) → Type 0
FindSays image text before total after =
    (t : Tree) → ImageOf image t → (ends : List ℕ) → EndsAre t text ends → (total ≡ length ends) × (after ≡ (done ends before).lent)

-- a stretch from the states of a mask, as document 02 has it for a watch: the live states after it, the total of its ends, and the first that fit
pub record Gone (t : Tree) (mask : List ℕ) (place : ℕ) (stretch before words : List ℕ) (total : ℕ) (after : List ℕ) : Type 0 where
  pub found : List ℕ
  pub ends : EndsIn t (In mask) place stretch found
  pub counted : total ≡ length found
  pub stored : after ≡ (done found before).lent
  pub live : MaskOf (states t) (LiveFrom t (In mask) stretch) (take (width (states t)) words)

abbrev pub GoOnSays : (image mask : List ℕ) (place : ℕ) (stretch before words : List ℕ) (total : ℕ) (after : List ℕ) → Type 0
GoOnSays image mask place stretch before words total after =
    (t : Tree) → ImageOf image t → IsMask (states t) mask → Gone t mask place stretch before words total after
