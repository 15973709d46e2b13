-- THE EXPRESSION TREE (document 01, "Plain writing" and "The grammar").
use Rattle.std.specs.Prelude.{Bool, true, false, ℕ}

-- how often a letter is taken: once, `?`, `*`, `+`
pub data Repeat : Type 0 where
  once option star plus : Repeat

-- `?` and `*` may take no byte; `*` and `+` may take many
abbrev pub can_skip : Repeat → Bool
can_skip once = false
can_skip option = true
can_skip star = true
can_skip plus = false

abbrev pub can_loop : Repeat → Bool
can_loop once = false
can_loop option = false
can_loop star = true
can_loop plus = true

-- what a group keeps after its `)`: nothing, `?` (document 02, Wish 3), or `*` (Wish 12)
pub data Mark : Type 0 where
  unmarked optional starred : Mark

-- a union with `?` or `*` may be left out; one with `*` may be gone through again
abbrev pub can_omit : Mark → Bool
can_omit unmarked = false
can_omit optional = true
can_omit starred = true

abbrev pub can_return : Mark → Bool
can_return unmarked = false
can_return optional = false
can_return starred = true

-- "Alternatives hold sequences, sequences hold items": a sequence is a letter (its class and its repeat) or a union (its mark and its
-- alternatives), and what follows it
mutual
  pub data Seq : Type 0 where
    end : Seq
    letter : ℕ → Repeat → Seq → Seq
    union : Mark → Alts → Seq → Seq

  pub data Alts : Type 0 where
    last : Seq → Alts
    more : Seq → Alts → Alts

-- a rule's tree is "the rule's own sequence"
abbrev pub Tree : Type 0
Tree = Seq

-- the items of one sequence, then those of another
abbrev pub glue : Seq → Seq → Seq
glue end t = t
glue (letter c r s) t = letter c r (glue s t)
glue (union m a s) t = union m a (glue s t)
