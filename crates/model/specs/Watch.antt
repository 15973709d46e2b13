-- THE WATCH (document 02, Wish 1): "a watch that begins with an image, takes one stretch of bytes at a time, and hands back its mask, its place and the
-- ends found in that stretch".
use Rattle.std.specs.Prelude.{◌≡◌, ◌↔◌, ◌≢◌, Bool, List, [], ◌∷◌, ◌++◌, ℕ, ◌+◌, ◌/◌, ◌%◌, ◌≤◌, ◌<◌, T, get_or, length, take}
use Rattle.model.specs.Lists.{◌∈◌, All, each}
use Rattle.model.specs.Bits.{bit}
use Rattle.model.specs.Tree.{Tree}
use Rattle.model.specs.Edges.{accepting, states}
use Rattle.model.specs.Live.{Before, Live, LiveFrom}
use Rattle.model.specs.Ends.{EndsAre, Rising}
use Rattle.model.specs.Image.{row, width}
use Rattle.model.specs.Answers.{Answer, done, gives, ImageOf, NoImage, refused}

-- ---- MASKS
-- "State i is bit i mod 64 of word i/64 (whole part)": state q is in the mask
abbrev pub In : List ℕ → ℕ → Type 0
In mask q = T (bit (get_or mask (q / 64) 0) (q % 64))

-- "A mask with a bit at or past m, or other than W words, is refused"
pub record IsMask (m : ℕ) (mask : List ℕ) : Type 0 where
  pub long : length mask ≡ width m
  pub none_past : (q : ℕ) → m ≤ q → In mask q → ⊥

-- the words of the mask whose states are those of D below m: "its first W words", "Unused bits are 0."
pub record MaskOf (m : ℕ) (D : ℕ → Type 0) (mask : List ℕ) : Type 0 where
  pub set : ℕ → Bool
  pub is : (q : ℕ) → q < m → T (set q) ↔ D q
  pub laid : mask ≡ row m set

-- ---- "THE ENDS FOUND IN THAT STRETCH", from any states D: the places of the whole text, after each byte of the stretch, at which the accepting state is live
abbrev pub EndIn : Tree → (ℕ → Type 0) → (place : ℕ) (stretch : List ℕ) → ℕ → Type 0
EndIn t D place stretch p = (i : ℕ) × (p ≡ place + i) × (1 ≤ i) × (i ≤ length stretch) × LiveFrom t D (take i stretch) (accepting t)

pub record EndsIn (t : Tree) (D : ℕ → Type 0) (place : ℕ) (stretch ps : List ℕ) : Type 0 where
  pub rising : Rising ps
  pub ends : (p : ℕ) → p ∈ ps → EndIn t D place stretch p
  pub complete : (p : ℕ) → EndIn t D place stretch p → p ∈ ps

-- ---- ANSWERS: a count of ends; lent are the mask's words, the place and the list for the ends
pub record Watch : Type 0 where
  pub mask : List ℕ
  pub place : ℕ
  pub ends : List ℕ

abbrev pub watch : (mask : List ℕ) (place : ℕ) (ends : List ℕ) → Watch
watch mask place ends = record { mask = mask; place = place; ends = ends }

abbrev pub Watched : Type 0
Watched = Answer ℕ Watch

-- "A refused stretch leaves the watch where it was."
abbrev pub stays : ℕ → (mask : List ℕ) (place : ℕ) (ends : List ℕ) → Watched
stays n mask place ends = refused n (watch mask place ends)

-- done: the new mask and place, the total of what was found, and as much of it written as fits
abbrev pub goes_on : (mask : List ℕ) (place : ℕ) (found ends : List ℕ) → Watched
goes_on mask place found ends = gives (length found) (watch mask place (done found ends).lent)

-- BEGIN: "beginning gives 6, then 9 by the words lent"; "Place 0 is reported by the beginning call only."
pub data BeginSays (words mask : List ℕ) (place : ℕ) (ends : List ℕ) (a : Watched) : Type 0 where
  not_an_image : NoImage words → a ≡ stays 6 mask place ends → BeginSays words mask place ends a
  not_a_mask : (t : Tree) → ImageOf words t → length mask ≢ width (states t) → a ≡ stays 9 mask place ends → BeginSays words mask place ends a
  begun : (t : Tree) (first found : List ℕ) → ImageOf words t → length mask ≡ width (states t) → MaskOf (states t) (Before t) first → EndsAre t [] found
      → a ≡ goes_on first 0 found ends → BeginSays words mask place ends a

-- STEP: "The order is 6, 7, 9, 10"; "The limit of 65,535 holds for one stretch"; "up to 4,294,967,295 bytes"
pub data StepSays (words mask : List ℕ) (place : ℕ) (stretch ends : List ℕ) (a : Watched) : Type 0 where
  not_an_image : NoImage words → a ≡ stays 6 mask place ends → StepSays words mask place stretch ends a
  stretch_too_long : (t : Tree) → ImageOf words t → 65535 < length stretch → a ≡ stays 7 mask place ends → StepSays words mask place stretch ends a
  not_a_mask : (t : Tree) → ImageOf words t → length stretch ≤ 65535 → (IsMask (states t) mask → ⊥) → a ≡ stays 9 mask place ends
      → StepSays words mask place stretch ends a
  text_too_long : (t : Tree) → ImageOf words t → length stretch ≤ 65535 → IsMask (states t) mask → 4294967295 < place + length stretch
      → a ≡ stays 10 mask place ends → StepSays words mask place stretch ends a
  stepped : (t : Tree) (after found : List ℕ) → ImageOf words t → length stretch ≤ 65535 → IsMask (states t) mask → place + length stretch ≤ 4294967295
      → MaskOf (states t) (LiveFrom t (In mask) stretch) after → EndsIn t (In mask) place stretch found
      → a ≡ goes_on after (place + length stretch) found ends → StepSays words mask place stretch ends a

-- ---- CUTTINGS: calls one after another, each with a stretch and a list lent for its ends, and what it gave
pub record Call : Type 0 where
  pub stretch : List ℕ
  pub lent : List ℕ
  pub gave : Watched

-- "That holds for one image throughout": each call is a step with that image, from the mask and the place that the one before gave
abbrev pub Calls : (words mask : List ℕ) (place : ℕ) → List Call → Type 0
Calls words mask place [] = Unit
Calls words mask place (c ∷ cs) = StepSays words mask place c.stretch c.lent c.gave × Calls words c.gave.lent.mask c.gave.lent.place cs

-- the whole text; the ends joined, as many of each list as its call counts; the mask and the place at last
abbrev pub text_of : List Call → List ℕ
text_of cs = each (λ c. c.stretch) cs

abbrev pub found_by : Watched → List ℕ
found_by a = take a.given a.lent.ends

abbrev pub ends_of : List Call → List ℕ
ends_of cs = each (λ c. found_by c.gave) cs

abbrev pub last_of : Watched → List Call → Watched
last_of a [] = a
last_of a (c ∷ cs) = last_of c.gave cs

-- "given room for each stretch's ends"; each stretch within its limit
abbrev pub Room : (ends : List ℕ) → Watched → Type 0
Room ends a = a.given ≤ length ends

abbrev pub Fair : Call → Type 0
Fair c = (length c.stretch ≤ 65535) × Room c.lent c.gave

-- WHAT A CUTTING PROMISES: every call is done, "the ends joined and the final mask are those document 01 defines for the whole text"
pub record Cutting (t : Tree) (first : Watched) (cs : List Call) : Type 0 where
  pub began : first.number ≡ 0
  pub went_on : All (λ c. c.gave.number ≡ 0) cs
  pub ends : EndsAre t (text_of cs) (found_by first ++ ends_of cs)
  pub mask : MaskOf (states t) (Live t (text_of cs)) (last_of first cs).lent.mask
  pub place : (last_of first cs).lent.place ≡ length (text_of cs)
