-- CLASSES AS FOUR WORDS, and the parts of the models that read them.
use Rattle.std.specs.Prelude.{◌&&◌, List, [], ◌∷◌, ℕ, suc, ◌+◌, ◌^◌, leb, ltb, length}
use Rattle.model.specs.Bits.{mask}
use Rattle.model.specs.Bytes.{byte}
use Rattle.model.specs.Grammar.{span}
use Rattle.model.specs.Models.Reader.{bind, case, got, past, Read, read_escape, read_members, read_single}
use Rattle.model.specs.Models.Words.{value}
use Rattle.rule_letters.specs.declared.classes.Class.{Class}

-- the words, low word first, and the number whose bit b says that byte b is in the class
abbrev pub words_of : Class → List ℕ
words_of c = c.word0 ∷ c.word1 ∷ c.word2 ∷ c.word3 ∷ []

unfoldable pub bytes_of : Class → ℕ
bytes_of c = value (words_of c)

-- of the 64 bytes from base on those below n, and those from lo to hi
unfoldable pub below_word : ℕ → ℕ → ℕ
below_word n base = mask 64 (λ b. ltb (base + b) n)

unfoldable pub span_word : ℕ → ℕ → ℕ → ℕ
span_word lo hi base = mask 64 (λ b. leb lo (base + b) && leb (base + b) hi)

-- what is read after the single lo and `-`, after the single lo, after a class's `[`, and after an escape's `\`
abbrev pub after_minus : ℕ → List ℕ → Read ℕ
after_minus lo l = bind (read_single lo l) (λ hi r. got (span lo hi) r)

abbrev pub after_lower : ℕ → List ℕ → Read ℕ
after_lower lo l = case (past (byte "-") l) (λ x r. after_minus lo r) (got (span lo lo) l)

abbrev pub after_bracket : List ℕ → Read ℕ
after_bracket l = read_members (suc (length l)) 0 l

abbrev pub after_escape : List ℕ → Read ℕ
after_escape l = bind (read_escape 0 l) (λ b r. got (2 ^ b) r)
