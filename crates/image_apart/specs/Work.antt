-- WHAT THE PARTS COMPUTE from any words: the states that some mask of a section has, and the kinds that these show.
use Rattle.std.specs.Prelude.{◌≡◌, cond, List, [], ◌∷◌, ℕ, zero, suc, ◌+◌, ◌*◌, ◌<◌, drop, get_or, replicate, take}
use Rattle.std.specs.Int.Bits.{bit_or}
use Rattle.model.specs.Bits.{bit}
use Rattle.model.specs.Models.Apart.{mark_of, repeat_of}
use Rattle.model.specs.Models.Words.{each_word, value}
use Rattle.tokens_masks.specs.Joins.{join_word, Only}
use Rattle.tokens.specs.Kinds.{bar_kind, mark_kind, open_kind, repeat_kind}
use Rattle.tokens_masks.specs.declared.Tape.{Tape}
use Rattle.image_sections.specs.declared.Sections.{Sections}
use Rattle.image_apart.specs.declared.marks.Marks.{Marks}

-- n words from a place on
abbrev pub words_at : List ℕ → ℕ → ℕ → List ℕ
words_at ws at n = take n (drop at ws)

-- ---- the states that some mask has
-- a row with the states of a mask, as far as the mask reaches; the states of n masks
abbrev pub or_first : List ℕ → List ℕ → List ℕ
or_first [] ys = []
or_first (x ∷ xs) [] = x ∷ xs
or_first (x ∷ xs) (y ∷ ys) = bit_or x y ∷ or_first xs ys

abbrev pub or_rows : ℕ → (ℕ → List ℕ) → List ℕ
or_rows zero f = replicate 8 0
or_rows (suc n) f = or_first (or_rows n f) (f n)

abbrev pub some_row : List ℕ → (at stride W n : ℕ) → List ℕ
some_row ws at stride W n = or_rows n (λ k. words_at ws (at + stride * k) W)

-- of n words, each a stride after the one before, the bits that some have
abbrev pub some_word : List ℕ → (at stride n : ℕ) → ℕ
some_word ws at stride zero = 0
some_word ws at stride (suc n) = bit_or (some_word ws at stride n) (get_or ws (at + stride * n) 0)

-- the states of a block that are not in the source after it: those that an edge enters
abbrev pub entered_words : List ℕ → ℕ → ℕ → List ℕ
entered_words ws at W = each_word (join_word Only) (words_at ws at W) (words_at ws (at + W) W)

abbrev pub entered_row : List ℕ → (at W n : ℕ) → List ℕ
entered_row ws at W n = or_rows n (λ k. entered_words ws (at + 3 * W * k) W)

abbrev pub marks_of : List ℕ → Sections → Marks
marks_of ws s = record {
  letters = some_row ws s.letters s.width s.width 256;
  loops = some_row ws s.repeats s.width s.width 256;
  entered = entered_row ws s.propagate s.width (suc s.depth);
  closes = some_row ws (s.gather + 2 * s.width) (3 * s.width) s.width s.depth;
  opens = some_row ws (s.scatter + s.width) (3 * s.width) s.width s.depth;
  returns = some_row ws s.back (2 * s.width) s.width s.depth;
}

-- the kind of the token from state i to the next
abbrev pub kind_at : Marks → ℕ → ℕ
kind_at marks i =
    cond (bit (value marks.letters) (suc i)) (repeat_kind (repeat_of (bit (value marks.entered) (suc i)) (bit (value marks.loops) (suc i))))
    (cond (bit (value marks.closes) (suc i)) (mark_kind (mark_of (bit (value marks.entered) (suc i)) (bit (value marks.returns) i)))
    (cond (bit (value marks.opens) i) open_kind bar_kind))

pub record ShownBy (marks : Marks) (n : ℕ) (t : Tape) : Type 0 where
  pub long : t.length ≡ n
  pub kinds : (i : ℕ) → i < n → get_or t.kinds i 0 ≡ kind_at marks i
