-- WHERE A READER STOPS, in terms of what the bytes that it passed can still become: what the readers' contracts promise of the place.
-- Nothing here is believed: proofs/Reading/Placed has it of each reader, proofs/Reading/Place of the rule.
use Rattle.std.specs.Prelude.{◌≡◌, Bool, true, false, not, List, [], ◌∷◌, ◌++◌, ℕ, ◌≤◌, ◌<◌, T, length}
use Rattle.model.specs.Lists.{within}
use Rattle.model.specs.Bytes.{bytes, digital}
use Rattle.model.specs.Tree.{Seq}
use Rattle.model.specs.Grammar.{IsLetter, IsSign, repeated, Sign}
use Rattle.model.specs.Spelling.{between}
use Rattle.model.specs.Models.Reader.{bad, got, Read}

-- ---- what is read, where the grammar has no name for it
-- a byte or a number of at least m
abbrev pub Least : (m : ℕ) → (List ℕ → ℕ → Type 0) → List ℕ → ℕ → Type 0
Least m X w n = X w n × (m ≤ n)

-- a letter with its repeat sign
pub data Piece (w : List ℕ) (s : Seq) : Type 0 where
  piece : {u v : List ℕ} {c : ℕ} {q : Sign} → w ≡ u ++ v → s ≡ repeated c q → IsLetter u c → IsSign v q → Piece w s

-- ---- what may follow, as tests on the next byte (`over`, after a sequence, is in Reader)
-- anything, after a single, a class, a letter
abbrev pub anything : List ℕ → Bool
anything l = true

-- no digit, after a number
abbrev pub halts : List ℕ → Bool
halts [] = true
halts (x ∷ xs) = not (digital x)

-- no repeat sign, after an item
abbrev pub free : List ℕ → Bool
free [] = true
free (x ∷ xs) = not (within x (bytes "?*+{"))

-- `)` or nothing, after alternatives; nothing, after those of a rule
abbrev pub closes : List ℕ → Bool
closes [] = true
closes (x ∷ xs) = within x (bytes ")")

abbrev pub at_end : List ℕ → Bool
at_end [] = true
at_end (x ∷ xs) = false

-- ---- where a reader stops
-- u can still become: some text after it makes a text of X, followed by bytes that pass the test F
pub record Becomes {A : Type 0} (X : List ℕ → A → Type 0) (F : List ℕ → Bool) (u : List ℕ) : Type 0 where
  pub rest : List ℕ
  pub part : List ℕ
  pub after : List ℕ
  pub what : A
  pub made : u ++ rest ≡ part ++ after
  pub is : X part what
  pub follows : T (F after)

-- from l a reader took u, a text of X, and with the byte after it nothing but that can come first;
-- or it passed u, which can still become a text of X, but with the byte after it it can not
pub data Placed {A : Type 0} (X : List ℕ → A → Type 0) (F : List ℕ → Bool) (l : List ℕ) : Read A → Type 0 where
  taken : (u : List ℕ) {a : A} {r : List ℕ} → l ≡ u ++ r → X u a
      → ((x : ℕ) (s : List ℕ) → r ≡ x ∷ s → (B : Becomes X F (u ++ (x ∷ []))) → (B.part ≡ u) × (B.what ≡ a)) → Placed X F l (got a r)
  passed : (u : List ℕ) {r : List ℕ} → l ≡ u ++ r → Becomes X F u
      → ((x : ℕ) (s : List ℕ) → r ≡ x ∷ s → Becomes X F (u ++ (x ∷ [])) → ⊥) → Placed X F l (bad r)

-- ---- the same by places of a rule, as code has them
module _ {A : Type 0} (X : List ℕ → A → Type 0) (F : List ℕ → Bool) (rule : List ℕ) (at p : ℕ) where
  -- a reader that began at the place at stops at p: the last place up to which the bytes can still become a text of X
  pub record StopsAt : Type 0 where
    pub forward : at ≤ p
    pub inside : p ≤ length rule
    pub can : Becomes X F (between rule at p)
    pub longest : (k : ℕ) → k ≤ length rule → Becomes X F (between rule at k) → k ≤ p

  -- or it takes the bytes up to p for a text of X, and whatever goes on past p, nothing else can come first
  pub record TakesAt (a : A) : Type 0 where
    pub forward : at ≤ p
    pub inside : p ≤ length rule
    pub is : X (between rule at p) a
    pub alone : (k : ℕ) → p < k → k ≤ length rule → (B : Becomes X F (between rule at k)) → (B.part ≡ between rule at p) × (B.what ≡ a)
