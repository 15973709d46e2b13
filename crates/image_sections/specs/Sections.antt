-- THE PLACES OF AN IMAGE as one record: for W words to a mask, those of m states and depth d; and of words that have a shape, their own.
use Rattle.std.specs.Prelude.{◌≡◌, List, ℕ, ◌+◌, ◌*◌, ◌^◌, ◌≤◌, ◌<◌, min, get_or, length}
use Rattle.model.specs.Image.{width}
use Rattle.model.specs.Models.Sections.{back_at, depth_word, gather_at, image_length, letters_at, propagate_at, repeats_at, scatter_at, state_word, width_word}
use Rattle.image_sections.specs.declared.Sections.{Sections}

abbrev pub sections_for : (m W d : ℕ) → Sections
sections_for m W d = record {
  states = m;
  width = W;
  depth = d;
  letters = letters_at;
  repeats = repeats_at W;
  scatter = scatter_at W;
  gather = gather_at W d;
  propagate = propagate_at W d;
  back = back_at W d;
  length = image_length W d;
}

abbrev pub sections_of : (m d : ℕ) → Sections
sections_of m d = sections_for m (width m) d

abbrev pub sections_in : List ℕ → Sections
sections_in ws = sections_of (state_word ws) (depth_word ws)

abbrev pub width_of : List ℕ → ℕ
width_of ws = width (state_word ws)

-- how many words a mask has, as the shape of any words says it, and at most eight
abbrev pub mask_words : List ℕ → ℕ
mask_words ws = min (width_word ws) 8

-- EVERY SECTION LIES WITHIN n WORDS: the limits, and that each begins after the one before it and a count
pub record Within (p : Sections) (n : ℕ) : Type 0 where
  pub narrow : p.width ≤ 8
  pub deep : p.depth ≤ 8
  pub area : p.width * p.depth ≤ 64
  pub room : p.states ≤ 64 * p.width
  pub short : n ≤ 4834
  pub letters : p.letters + p.width * 256 + 1 ≡ p.repeats
  pub repeats : p.repeats + p.width * 256 + 1 ≡ p.scatter
  pub scatters : p.scatter + p.width * (3 * p.depth) + 1 ≡ p.gather
  pub gathers : p.gather + p.width * (3 * p.depth) + 1 ≡ p.propagate
  pub propagates : p.propagate + p.width * (3 * (p.depth + 1)) + 1 ≡ p.back
  pub backs : p.back + p.width * (2 * p.depth) ≡ n
  pub counted : 1 ≤ p.letters

-- WORDS WITH THESE PLACES: of 2 to 512 states, depth at most 8 and the length that these ask
pub record Placed (ws : List ℕ) (p : Sections) : Type 0 where
  pub own : p ≡ sections_in ws
  pub some : 2 ≤ state_word ws
  pub few : state_word ws ≤ 512
  pub shallow : depth_word ws ≤ 8
  pub long : length ws ≡ p.length

-- WORDS OF 64 BITS each
abbrev pub AreWords : List ℕ → Type 0
AreWords ws = (i : ℕ) → get_or ws i 0 < 2 ^ 64

-- WORDS OF ONE WORD TO A MASK: the places where W is 1
pub record Single (p : Sections) (n : ℕ) : Type 0 where
  pub few : p.states ≤ 64
  pub deep : p.depth ≤ 8
  pub scatter_is : p.scatter ≡ scatter_at 1
  pub gather_is : p.gather ≡ gather_at 1 p.depth
  pub propagate_is : p.propagate ≡ propagate_at 1 p.depth
  pub back_is : p.back ≡ back_at 1 p.depth
  pub long : n ≡ image_length 1 p.depth
