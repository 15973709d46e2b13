-- WHAT A RULE SPELLS, AND ITS ENDS (document 01, "States and edges", last paragraph).
use Rattle.std.specs.Prelude.{◌≡◌, ◌⊎◌, List, [], ◌∷◌, ◌++◌, ℕ, ◌<◌, T, length}
use Rattle.model.specs.Lists.{◌∈◌, All}
use Rattle.model.specs.Bits.{bit}
use Rattle.model.specs.Tree.{Alts, end, last, letter, Mark, more, once, option, optional, plus, Repeat, star, starred, Tree, union, unmarked}

-- a letter spells one byte of its class, with `?` also none, with `*` any number, with `+` at least one
abbrev pub LetterSpells : ℕ → Repeat → List ℕ → Type 0
LetterSpells c once v = (b : ℕ) × (v ≡ b ∷ []) × T (bit c b)
LetterSpells c option v = (v ≡ []) ⊎ ((b : ℕ) × (v ≡ b ∷ []) × T (bit c b))
LetterSpells c star v = All (λ b. T (bit c b)) v
LetterSpells c plus v = (b : ℕ) × (x : List ℕ) × (v ≡ b ∷ x) × T (bit c b) × All (λ b. T (bit c b)) x

-- texts of P one after another, none or more
pub data Repeated (P : List ℕ → Type 0) : List ℕ → Type 0 where
  never : {v : List ℕ} → v ≡ [] → Repeated P v
  again : {v x y : List ℕ} → v ≡ x ++ y → P x → Repeated P y → Repeated P v

-- a group that spells the texts of P spells with `?` also none, with `*` any number of them one after another
abbrev pub GroupSpells : Mark → (List ℕ → Type 0) → List ℕ → Type 0
GroupSpells unmarked P v = P v
GroupSpells optional P v = (v ≡ []) ⊎ P v
GroupSpells starred P v = Repeated P v

-- a sequence spells what its items spell one after another, a union what one of its alternatives spells
abbrev mutual
  pub Spells : Tree → List ℕ → Type 0
  Spells end v = v ≡ []
  Spells (letter c r s) v = (x : List ℕ) × (y : List ℕ) × (v ≡ x ++ y) × LetterSpells c r x × Spells s y
  Spells (union m a s) v = (x : List ℕ) × (y : List ℕ) × (v ≡ x ++ y) × GroupSpells m (λ u. AltsSpell a u) x × Spells s y

  pub AltsSpell : Alts → List ℕ → Type 0
  AltsSpell (last s) v = Spells s v
  AltsSpell (more s a) v = Spells s v ⊎ AltsSpell a v

-- "Place p (p bytes read, from 0 to the text's length) is an end exactly if .. some stretch of the text stopping at p .. is spelled by the rule."
pub record End (t : Tree) (text : List ℕ) (p : ℕ) : Type 0 where
  pub before : List ℕ
  pub stretch : List ℕ
  pub after : List ℕ
  pub cut : text ≡ before ++ (stretch ++ after)
  pub stops : p ≡ length (before ++ stretch)
  pub spelled : Spells t stretch

-- the list of ends, rising and complete
abbrev pub Rising : List ℕ → Type 0
Rising [] = Unit
Rising (p ∷ ps) = All (λ q. p < q) ps × Rising ps

pub record EndsAre (t : Tree) (text ps : List ℕ) : Type 0 where
  pub rising : Rising ps
  pub ends : (p : ℕ) → p ∈ ps → End t text p
  pub complete : (p : ℕ) → End t text p → p ∈ ps
