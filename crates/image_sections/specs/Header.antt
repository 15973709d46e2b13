-- WHAT THE READER OF THE HEADER TESTS of any words, and what it is to have one.
use Rattle.std.specs.Prelude.{◌≡◌, Option, None, Some, Bool, ◌&&◌, cond, List, ℕ, suc, ◌-◌, ◌*◌, ◌≤◌, eqb, leb, get_or, length}
use Rattle.model.specs.Image.{width}
use Rattle.model.specs.Models.Sections.{Counted, depth_word, state_word, width_word}
use Rattle.image_sections.specs.Sections.{sections_in}
use Rattle.image_sections.specs.declared.Sections.{Sections}

-- the shape's numbers are within the limits, the length is what they ask, and each section follows its count
pub record Headed (ws : List ℕ) : Type 0 where
  pub some : 2 ≤ state_word ws
  pub few : state_word ws ≤ 512
  pub width-word : width_word ws ≡ width (state_word ws)
  pub shallow : depth_word ws ≤ 8
  pub counted : Counted ws (width_word ws) (depth_word ws)

-- the word at a place is the number
abbrev pub holds : List ℕ → ℕ → ℕ → Bool
holds ws at n = eqb (get_or ws at 0) n

abbrev pub shape_fits : List ℕ → Bool
shape_fits ws =
    leb 4 (length ws)
    && (holds ws 0 3
    && (leb 2 (state_word ws) && (leb (state_word ws) 512 && (eqb (width_word ws) (width (state_word ws)) && leb (depth_word ws) 8))))

abbrev pub counts_fit : List ℕ → Sections → Bool
counts_fit ws p =
    holds ws (p.letters - 1) (256 * p.width)
    && (holds ws (p.repeats - 1) (256 * p.width)
    && (holds ws (p.scatter - 1) (3 * p.width * p.depth)
    && (holds ws (p.gather - 1) (3 * p.width * p.depth)
    && (holds ws (p.propagate - 1) (3 * p.width * suc p.depth) && holds ws (p.back - 1) (2 * p.width * p.depth)))))

abbrev pub header_fits : List ℕ → Bool
header_fits ws = shape_fits ws && (eqb (length ws) (sections_in ws).length && counts_fit ws (sections_in ws))

abbrev pub header_if : Bool → List ℕ → Option Sections
header_if b ws = cond b (Some (sections_in ws)) None
