-- WHAT TAKE APART SAYS of any words: whether they have the header of an image, and then their numbers, the states that letters lead to, and the tape
-- that the masks show, in the terms of the model (model.specs.Models.Apart).
use Rattle.std.specs.Prelude.{◌≡◌, Option, None, Some, List, ℕ, ◌-◌, length}
use Rattle.model.specs.Bits.{bit}
use Rattle.model.specs.Models.Apart.{any_below, tape}
use Rattle.model.specs.Models.Sections.{bit_of, letters_in, state_word, width_word}
use Rattle.model.specs.Models.Words.{Fit, value}
use Rattle.tokens_masks.specs.Tapes.{bares, tokens_of}
use Rattle.tokens_masks.specs.declared.Tape.{Tape}
use Rattle.image_apart.specs.declared.Apart.{Apart}
use Rattle.image_sections.specs.Header.{Headed}
use Rattle.image_sections.specs.Sections.{sections_in}

-- the states that some byte's mask of the letters has, in eight words
pub record LettersOf (ws row : List ℕ) : Type 0 where
  pub eight : length row ≡ 8
  pub fit : Fit row
  pub bits : (x : ℕ) → bit (value row) x ≡ any_below 256 (λ b. bit_of (width_word ws) (letters_in ws) b x)

-- the tokens that the masks show, but for their classes
pub record ShownTape (ws : List ℕ) (t : Tape) : Type 0 where
  pub long : t.length ≡ state_word ws - 1
  pub tokens_are : tokens_of t ≡ bares (tape ws)

pub data ApartSays (ws : List ℕ) (r : Option Apart) : Type 0 where
  taken : Headed ws → (a : Apart) → r ≡ Some a → a.image.words.now ≡ ws → a.image.sections ≡ sections_in ws
      → LettersOf ws a.letters → ShownTape ws a.tape → ApartSays ws r
  no_header : (Headed ws → ⊥) → r ≡ None → ApartSays ws r
