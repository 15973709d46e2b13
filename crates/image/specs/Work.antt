-- THE PARTS OF AN IMAGE as the code writes them: the sets of states that a byte's letters lead to, read off the tokens' classes, and the sections.
use Rattle.std.specs.Prelude.{◌≡◌, Bool, true, false, List, [], ◌∷◌, ◌++◌, ℕ, zero, suc, ◌+◌, ◌*◌, ◌/◌, ◌%◌, ◌^◌, ◌<◌, drop, get_or, set, take}
use Rattle.std.specs.Int.Bits.{bit_or}
use Rattle.model.specs.Bits.{bit}
use Rattle.model.specs.Image.{join, section}
use Rattle.model.specs.Models.LayOut.{back-source, back-target, gather-block, gather-source, gather-target, loop_place, scatter-block, scatter-source, scatter-target}
use Rattle.model.specs.Models.LayOut.{set as statesIn}
use Rattle.model.specs.Models.Words.{and_words}
use Rattle.image_sections.specs.declared.Sections.{Sections}
use Rattle.tokens.specs.Kinds.{kind_in}
use Rattle.tokens_masks.specs.Masks.{row_in, row_number}
use Rattle.tokens_masks.specs.Tables.{Table}
use Rattle.tokens_masks.specs.Tapes.{propagate_block_table, propagate_source_table, propagate_target_table, table_of}
use Rattle.tokens_masks.specs.declared.Tape.{Tape}

-- the kinds of a tape are those of the tokens
abbrev pub KindsAre : List ℕ → List ℕ → Type 0
KindsAre row kinds = (i : ℕ) → i < 511 → get_or kinds i 0 ≡ kind_in (get_or row (5 * i) 0)

-- byte b is in the class of token i; token i leads to state i + 1
abbrev pub in_class : List ℕ → ℕ → ℕ → Bool
in_class row b i = bit (get_or row (5 * i + 1 + b / 64) 0) (b % 64)

abbrev pub leads : List ℕ → ℕ → ℕ → Bool
leads row b zero = false
leads row b (suc i) = in_class row b i

-- the mask of byte b over n tokens, in eight words; and of those states the ones with a loop
abbrev pub letter_row : List ℕ → ℕ → ℕ → List ℕ
letter_row row n b = statesIn (suc n) 8 (leads row b)

abbrev pub repeat_row : List ℕ → ℕ → List ℕ → ℕ → List ℕ
repeat_row row n loops b = and_words (letter_row row n b) loops

-- the bit of a state put into the row that begins at a place, or not; and, of rows of W words, into those of the first n bits of a class's word
abbrev pub with_bit : Bool → ℕ → ℕ → List ℕ → List ℕ
with_bit true place state ws = set ws (place + state / 64) (bit_or (get_or ws (place + state / 64) 0) (2 ^ (state % 64)))
with_bit false place state ws = ws

abbrev pub with_state : ℕ → ℕ → ℕ → ℕ → ℕ → List ℕ → List ℕ
with_state zero W class state at ws = ws
with_state (suc n) W class state at ws = with_bit (bit class n) (at + W * n) state (with_state n W class state at ws)

-- the rows of the bytes of word q of the classes
abbrev pub quarter_part : ℕ → List ℕ → ℕ → ℕ → List ℕ
quarter_part width row n q = join 64 (64 * q) (λ b. take width (letter_row row n b))

-- of the words at a place those bits that the loops have
abbrev pub both_row : ℕ → List ℕ → ℕ → List ℕ → List ℕ
both_row width words from loops = and_words (take width (drop from words)) (take width loops)

abbrev pub both_part : ℕ → List ℕ → ℕ → List ℕ → List ℕ
both_part width words from loops = section (join 256 0 (λ b. both_row width words (from + width * b) loops))

-- the sections
abbrev pub letters_part : ℕ → List ℕ → ℕ → List ℕ
letters_part width row n = section (join 256 0 (λ b. take width (letter_row row n b)))

abbrev pub repeats_part : ℕ → List ℕ → ℕ → List ℕ → List ℕ
repeats_part width row n loops = section (join 256 0 (λ b. take width (repeat_row row n loops b)))

-- of the masks that lay out lends, `count` rows of depth k: those of plane `first` and of the planes after it
abbrev pub depth_masks : (W first count : ℕ) (masks : List ℕ) → ℕ → List ℕ
depth_masks W first count masks k = join count 0 (λ i. take W (row_in masks (row_number k (first + i))))

abbrev pub three_rows : ℕ → List ℕ → List ℕ → List ℕ → List ℕ
three_rows width block source target = take width block ++ (take width source ++ take width target)

abbrev pub tables_part : ℕ → ℕ → Table → Table → Table → List ℕ
tables_part width depths block source target = section (join depths 0 (λ k. three_rows width (get_or block k []) (get_or source k []) (get_or target k [])))

abbrev pub two_rows : ℕ → List ℕ → List ℕ → List ℕ
two_rows width source target = take width source ++ take width target

abbrev pub back_part : ℕ → ℕ → Table → Table → List ℕ
back_part width depths source target = section (join depths 0 (λ k. two_rows width (get_or source k []) (get_or target k [])))

abbrev pub shape_part : Sections → List ℕ
shape_part p = section (p.states ∷ p.width ∷ p.depth ∷ [])

-- the whole image of a row of tokens and its tape, with these places
abbrev pub image_words : Sections → List ℕ → Tape → List ℕ
image_words p row tape =
    shape_part p
    ++ (letters_part p.width row tape.length
    ++ (repeats_part p.width row tape.length (get_or (table_of tape loop_place) 0 [])
    ++ (tables_part p.width p.depth (table_of tape scatter-block) (table_of tape scatter-source) (table_of tape scatter-target)
    ++ (tables_part p.width p.depth (table_of tape gather-block) (table_of tape gather-source) (table_of tape gather-target)
    ++ (tables_part p.width (suc p.depth) (propagate_block_table tape) (propagate_source_table tape) (propagate_target_table tape)
    ++ back_part p.width p.depth (table_of tape back-source) (table_of tape back-target))))))
