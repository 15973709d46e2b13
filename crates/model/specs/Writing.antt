-- THE PLAIN WRITING (document 01, "Plain writing"): "the tree written out".
use Rattle.std.specs.Prelude.{◌&&◌, cond, List, [], ◌∷◌, ◌++◌, ℕ, zero, suc, ◌+◌, ◌-◌, ◌/◌, ◌%◌, ◌^◌, leb, ltb, eqb}
use Rattle.model.specs.Lists.{within}
use Rattle.model.specs.Bits.{bit}
use Rattle.model.specs.Bytes.{byte, bytes, signs}
use Rattle.model.specs.Tree.{Alts, end, last, letter, Mark, more, once, option, optional, plus, Repeat, star, starred, Tree, union, unmarked}
use Rattle.model.specs.Grammar.{dot_class}

-- an "upper-case digit"
abbrev pub hex_digit : ℕ → ℕ
hex_digit d = cond (ltb d 10) (byte "0" + d) (55 + d)

-- a byte: "plain and not `-`, itself; a sign or `-`, with `\` before it; else `\x` and two upper-case digits"
abbrev pub byte_writing : ℕ → List ℕ
byte_writing b =
    cond (within b (byte "-" ∷ signs)) (byte "\\" ∷ b ∷ [])
    (cond (leb 33 b && leb b 126) (b ∷ []) (byte "\\" ∷ byte "x" ∷ hex_digit (b / 16) ∷ hex_digit (b % 16) ∷ []))

-- "a run of one as the byte, a longer run as `lo-hi`"
abbrev pub run_writing : ℕ → ℕ → List ℕ
run_writing lo hi = cond (eqb lo hi) (byte_writing lo) (byte_writing lo ++ (byte "-" ∷ byte_writing hi))

-- "its maximal runs in rising order": of the class c the n bytes from b on, outside any run, and inside one that began in lo
abbrev mutual
  pub outside : ℕ → ℕ → ℕ → List ℕ
  outside zero c b = []
  outside (suc n) c b = cond (bit c b) (inside n c (suc b) b) (outside n c (suc b))

  pub inside : ℕ → ℕ → ℕ → ℕ → List ℕ
  inside zero c b lo = run_writing lo 255
  inside (suc n) c b lo = cond (bit c b) (inside n c (suc b) lo) (run_writing lo (b - 1) ++ outside n c (suc b))

-- the only byte of a class, looked for among n bytes from b on; 256 if it has no or several bytes
abbrev pub sole : ℕ → ℕ → ℕ → ℕ
sole zero c b = 256
sole (suc n) c b = cond (eqb c (2 ^ b)) b (sole n c (suc b))

-- "A class of one byte is that byte .. Any other class is its maximal runs in rising order in `[ ]`", but for that of the dot, d
abbrev pub class_with : (d : ℕ) → ℕ → List ℕ
class_with d c =
    let b = sole 256 c 0 in
    cond (ltb b 256) (byte_writing b) (cond (eqb c d) (bytes ".") ((byte "[" ∷ outside 256 c 0) ++ (byte "]" ∷ [])))

-- "The class of those 255 bytes is written `.`, and the class of all 256 is written `[\x00-\xFF]`." (document 02, Wish 4)
abbrev pub class_writing : ℕ → List ℕ
class_writing = class_with dot_class

abbrev pub repeat_writing : Repeat → List ℕ
repeat_writing once = []
repeat_writing option = bytes "?"
repeat_writing star = bytes "*"
repeat_writing plus = bytes "+"

abbrev pub mark_writing : Mark → List ℕ
mark_writing unmarked = []
mark_writing optional = bytes "?"
mark_writing starred = bytes "*"

-- the tree written out, each class c as f c. "Every union is bracketed, also at the top."
abbrev mutual
  pub written_by : (ℕ → List ℕ) → Tree → List ℕ
  written_by f end = []
  written_by f (letter c r s) = f c ++ (repeat_writing r ++ written_by f s)
  written_by f (union m a s) = byte "(" ∷ (alts_by f a ++ (byte ")" ∷ (mark_writing m ++ written_by f s)))

  pub alts_by : (ℕ → List ℕ) → Alts → List ℕ
  alts_by f (last s) = written_by f s
  alts_by f (more s a) = written_by f s ++ (byte "|" ∷ alts_by f a)

-- THE PLAIN WRITING
abbrev pub writing : Tree → List ℕ
writing = written_by class_writing

abbrev pub alts_writing : Alts → List ℕ
alts_writing = alts_by class_writing
