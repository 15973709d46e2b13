-- THE GRAMMAR OF RULES (document 01, "The grammar"), as a relation between bytes and what they mean. It is no parser: it says only what is a rule, and of which tree.
use Rattle.std.specs.Prelude.{◌≡◌, Bool, not, ◌&&◌, cond, List, [], ◌∷◌, ◌++◌, ℕ, zero, suc, ◌+◌, ◌-◌, ◌*◌, ◌^◌, ◌≤◌, T, eqb, leb}
use Rattle.std.specs.Int.Bits.{bit_or}
use Rattle.model.specs.Bits.{mask}
use Rattle.model.specs.Bytes.{byte, IsDigit, IsEscape, plain}
use Rattle.model.specs.Tree.{Alts, end, glue, last, letter, more, once, option, optional, plus, Repeat, Seq, star, starred, Tree, union, unmarked}
use Rattle.model.specs.Edges.{alts_empty}

-- ---- classes: the number whose bit b says that byte b is in it
-- "In a class a single is an escape or a plain byte other than `-`; the signs need escapes there too."
abbrev pub bare : ℕ → Bool
bare b = plain b && not (eqb b (byte "-"))

pub data IsSingle : List ℕ → ℕ → Type 0 where
  itself : {w : List ℕ} {b : ℕ} → w ≡ b ∷ [] → T (bare b) → IsSingle w b
  escaped : {w : List ℕ} {b : ℕ} → IsEscape w b → IsSingle w b

-- the bytes from lo to hi
abbrev pub span : ℕ → ℕ → ℕ
span lo hi = mask 256 (λ b. leb lo b && leb b hi)

-- the class of `.`: "From now `.` is every byte but 10." (document 02, Wish 4)
abbrev pub dot_class : ℕ
dot_class = mask 256 (λ b. not (eqb b 10))

-- "singles or ranges `lo-hi` of two singles, lo at most hi"
pub data IsMember : List ℕ → ℕ → Type 0 where
  single : {w : List ℕ} {c b : ℕ} → c ≡ span b b → IsSingle w b → IsMember w c
  range : {w u v : List ℕ} {c lo hi : ℕ} → w ≡ u ++ (byte "-" ∷ v) → c ≡ span lo hi → lo ≤ hi → IsSingle u lo → IsSingle v hi → IsMember w c

-- "one or more" of them
pub data IsMembers : List ℕ → ℕ → Type 0 where
  member : {w : List ℕ} {c : ℕ} → IsMember w c → IsMembers w c
  beside : {w u v : List ℕ} {c d e : ℕ} → w ≡ u ++ v → c ≡ bit_or d e → IsMember u d → IsMembers v e → IsMembers w c

-- ---- letters
-- "A letter is a plain byte, an escape, `.` .. or a class `[...]`". What is a letter, an item and so on, up to a rule, is said for any class d of `.`:
-- document 01 had another one (specs/Before.antt).
pub data LetterWith (d : ℕ) : List ℕ → ℕ → Type 0 where
  plain_byte : {w : List ℕ} {c b : ℕ} → w ≡ b ∷ [] → c ≡ 2 ^ b → T (plain b) → LetterWith d w c
  escape : {w : List ℕ} {c b : ℕ} → c ≡ 2 ^ b → IsEscape w b → LetterWith d w c
  dot : {w : List ℕ} {c : ℕ} → w ≡ byte "." ∷ [] → c ≡ d → LetterWith d w c
  class : {w u : List ℕ} {c : ℕ} → w ≡ byte "[" ∷ (u ++ (byte "]" ∷ [])) → IsMembers u c → LetterWith d w c

-- ---- repeat signs
-- "Numbers have 1 to 3 digits and no leading zero except `0` itself."
pub data IsNumber : List ℕ → ℕ → Type 0 where
  one : {w : List ℕ} {n x : ℕ} → w ≡ x ∷ [] → IsDigit x n → IsNumber w n
  two : {w : List ℕ} {n x y d e : ℕ} → w ≡ x ∷ y ∷ [] → n ≡ 10 * d + e → 1 ≤ d → IsDigit x d → IsDigit y e → IsNumber w n
  three : {w : List ℕ} {n x y z d e f : ℕ} → w ≡ x ∷ y ∷ z ∷ [] → n ≡ 100 * d + 10 * e + f → 1 ≤ d → IsDigit x d → IsDigit y e → IsDigit z f → IsNumber w n

-- what stands in `{ }`: "`{x}` is `{x,x}` and `{,y}` is `{0,y}`"
pub data IsBounds : List ℕ → ℕ → ℕ → Type 0 where
  both : {w u v : List ℕ} {x y : ℕ} → w ≡ u ++ (byte "," ∷ v) → IsNumber u x → IsNumber v y → IsBounds w x y
  same : {w : List ℕ} {x y : ℕ} → y ≡ x → IsNumber w x → IsBounds w x y
  upto : {w v : List ℕ} {x y : ℕ} → w ≡ byte "," ∷ v → x ≡ 0 → IsNumber v y → IsBounds w x y

pub data Sign : Type 0 where
  plainly : Repeat → Sign
  times : ℕ → ℕ → Sign

-- "at most one repeat sign": "`?`, `*`, `+`, `{x}`, `{x,y}`, `{,y}` .. x is at most y, and y at least 1."
pub data IsSign : List ℕ → Sign → Type 0 where
  absent : {w : List ℕ} {q : Sign} → w ≡ [] → q ≡ plainly once → IsSign w q
  question : {w : List ℕ} {q : Sign} → w ≡ byte "?" ∷ [] → q ≡ plainly option → IsSign w q
  asterisk : {w : List ℕ} {q : Sign} → w ≡ byte "*" ∷ [] → q ≡ plainly star → IsSign w q
  cross : {w : List ℕ} {q : Sign} → w ≡ byte "+" ∷ [] → q ≡ plainly plus → IsSign w q
  braces : {w u : List ℕ} {q : Sign} {x y : ℕ} → w ≡ byte "{" ∷ (u ++ (byte "}" ∷ [])) → q ≡ times x y → x ≤ y → 1 ≤ y → IsBounds u x y → IsSign w q

-- n times the letter c with r, and then s
abbrev pub copies : ℕ → ℕ → Repeat → Seq → Seq
copies zero c r s = s
copies (suc n) c r s = letter c r (copies n c r s)

-- "`b{x,y}` becomes y-x times `b?`, then x times `b`"
abbrev pub repeated : ℕ → Sign → Seq
repeated c (plainly r) = letter c r end
repeated c (times x y) = copies (y - x) c option (copies x c once end)

-- ---- the tree
-- "brackets around one alternative vanish and their items join the sequence outside"; several are a union
abbrev pub bracket : Alts → Seq
bracket (last s) = s
bracket (more s a) = union unmarked (more s a) end

-- "A bracketed group may take `?`", "may take `*`", and `+`
pub data IsMark : List ℕ → Repeat → Type 0 where
  nothing : {w : List ℕ} {r : Repeat} → w ≡ [] → r ≡ once → IsMark w r
  query : {w : List ℕ} {r : Repeat} → w ≡ byte "?" ∷ [] → r ≡ option → IsMark w r
  any_number : {w : List ℕ} {r : Repeat} → w ≡ byte "*" ∷ [] → r ≡ star → IsMark w r
  some_number : {w : List ℕ} {r : Repeat} → w ≡ byte "+" ∷ [] → r ≡ plus → IsMark w r

-- a group with `*`: "a union's start and end around the one body .. A group that was a union becomes that body's sole item"
abbrev pub cycle : Alts → Seq
cycle a = union starred (last (bracket a)) end

-- with `?`: "The tree keeps it as a union .. also when it has one alternative .. But a `?` on a group that can already be empty is dropped before the
-- tree is made, and the group is then read without it". "`+` on a group is the group and then its `*`."
abbrev pub grouped : Alts → Repeat → Seq
grouped a once = bracket a
grouped a option = cond (alts_empty a) (bracket a) (union optional a end)
grouped a star = cycle a
grouped a plus = glue (bracket a) (cycle a)

-- "Alternatives hold sequences, sequences hold items, items hold alternatives: an item is a letter with at most one repeat sign, or
-- bracketed alternatives", with `?`, `*` or `+` or without. "No sequence is empty." An item means the sequence that it adds to the one outside.
mutual
  pub data AltsWith (d : ℕ) : List ℕ → Alts → Type 0 where
    only : {w : List ℕ} {s : Seq} → SeqWith d w s → AltsWith d w (last s)
    also : {w u v : List ℕ} {s : Seq} {a : Alts} → w ≡ u ++ (byte "|" ∷ v) → SeqWith d u s → AltsWith d v a → AltsWith d w (more s a)

  pub data SeqWith (d : ℕ) : List ℕ → Seq → Type 0 where
    item : {w : List ℕ} {s : Seq} → ItemWith d w s → SeqWith d w s
    then : {w u v : List ℕ} {s h t : Seq} → w ≡ u ++ v → s ≡ glue h t → ItemWith d u h → SeqWith d v t → SeqWith d w s

  pub data ItemWith (d : ℕ) : List ℕ → Seq → Type 0 where
    lone : {w u v : List ℕ} {s : Seq} {c : ℕ} {q : Sign} → w ≡ u ++ v → s ≡ repeated c q → LetterWith d u c → IsSign v q → ItemWith d w s
    group : {w u v : List ℕ} {s : Seq} {a : Alts} {r : Repeat} → w ≡ byte "(" ∷ (u ++ (byte ")" ∷ v)) → s ≡ grouped a r → AltsWith d u a → IsMark v r
        → ItemWith d w s

-- "A rule is alternatives separated by `|`."
pub data RuleWith (d : ℕ) : List ℕ → Tree → Type 0 where
  rule : {w : List ℕ} {t : Tree} {a : Alts} → t ≡ bracket a → AltsWith d w a → RuleWith d w t

-- ---- with the dot of now
abbrev pub IsLetter : List ℕ → ℕ → Type 0
IsLetter = LetterWith dot_class

abbrev pub IsItem : List ℕ → Seq → Type 0
IsItem = ItemWith dot_class

abbrev pub IsSeq : List ℕ → Seq → Type 0
IsSeq = SeqWith dot_class

abbrev pub IsAlts : List ℕ → Alts → Type 0
IsAlts = AltsWith dot_class

-- THE RULE w HAS THE TREE t
abbrev pub IsRule : List ℕ → Tree → Type 0
IsRule = RuleWith dot_class
