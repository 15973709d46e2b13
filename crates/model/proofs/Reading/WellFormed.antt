-- EVERY RULE'S TREE IS WELL FORMED: each class holds some byte and only bytes, no sequence is empty, each union without `?` has at least two
-- alternatives, none of one with `?` can be empty, and one with `*` has one body; for the grammar has no empty class, no empty sequence, brackets
-- around one alternative vanish, and so does a `?` that is not needed.
use mathlib.Core.Path.{◌≡◌}
use mathlib.Core.Bool.{Bool, not, ◌&&◌}
use mathlib.Core.List.{List, ◌∷◌}
use Prim.Native.Nat.{ℕ, zero, suc, ◌+◌, ◌-◌, ◌^◌, ◌≤◌, ◌<◌}
use native.Mathlib.Nat.{le_refl}
use native.Mathlib.Omega.{arith}
use lib.Dec.{T, eqb, leb, ltb, leb→le, le→leb, ltb→lt, lit<, lit≤}
use lib.Bits.{bit_or, or_lt, or_add_and, and_le_r}
use lib.Pow.{pow_pos, pow-lt}
use Rattle.model.specs.Lists.{within}
use Rattle.model.specs.Bits.{bit}
use Rattle.model.specs.Bytes.{byte, IsEscape, number, plain, sign, signs}
use Rattle.model.specs.Tree.{Alts, end, glue, last, letter, Mark, more, once, option, optional, plus, Repeat, Seq, star, starred, union, unmarked}
use Rattle.model.specs.Grammar.{absent, also, AltsWith, any_number, asterisk, beside, braces, bracket, class, copies, cross, cycle, dot, escape, escaped, group, grouped, IsMark, IsMember, IsMembers, IsRule, IsSign, IsSingle, item, ItemWith, itself, LetterWith, lone, member, nothing, only, plain_byte, query, question, range, repeated, rule, RuleWith, SeqWith, Sign, single, some_number, span, then, times}
use Rattle.model.specs.Edges.{alts_empty}
use Rattle.model.specs.Models.Tokens.{several}
use Rattle.model.proofs.Laws.Bits.{bit_some}
use Rattle.model.proofs.Laws.Bool.{and_both, and_split, cond_cases}
use Rattle.model.proofs.Laws.Trees.{NonEmpty}
use Rattle.model.proofs.Reading.Answers.{among}
use Rattle.model.proofs.Reading.Escapes.{hex_small}
use Rattle.model.proofs.Words.Bits.{bit_mask, mask_lt}

-- a class holds some byte, and nothing past 255
pub record Class (c : ℕ) : Type 0 where
  pub some_byte : 1 ≤ c
  pub bytes_only : c < 2 ^ 256

-- the mark that the grammar leaves a union: none where it has several alternatives, `?` where none of them can be empty, `*` where it has one
abbrev pub marking : Mark → (several empty : Bool) → Bool
marking unmarked n e = n
marking optional n e = not e
marking starred n e = not n

abbrev pub Marked : Mark → Alts → Type 0
Marked m a = T (marking m (several a) (alts_empty a))

-- and so for all that lies within
abbrev mutual
  pub Good : Seq → Type 0
  Good end = Unit {0}
  Good (letter c r s) = Class c × Good s
  Good (union m a s) = Marked m a × GoodAlts a × Good s

  pub GoodAlts : Alts → Type 0
  GoodAlts (last s) = NonEmpty s × Good s
  GoodAlts (more s a) = NonEmpty s × Good s × GoodAlts a

-- A TREE THAT SOME RULE CAN HAVE
pub record WellFormed (s : Seq) : Type 0 where
  pub full : NonEmpty s
  pub good : Good s

well : (s : Seq) → NonEmpty s → Good s → WellFormed s
well s f g = record { full = f; good = g }

-- ---- bytes are below 256
plain_small : (b : ℕ) → T (plain b) → b < 256
plain_small b h =
    let k = and_split (leb 33 b) (leb b 126 && not (within b signs)) h in
    let m = and_split (leb b 126) (not (within b signs)) k.1 in
    omega (arith, leb→le b 126 m.0)

escape_small : {w : List ℕ} {b : ℕ} → IsEscape w b → b < 256
escape_small (sign {b} p h) = ltb→lt b 256 (among (λ y. ltb y 256) b (byte "-" ∷ signs) h tt)
escape_small (number p q h k) = omega (arith, hex_small h, hex_small k)

pub single_small : {w : List ℕ} {b : ℕ} → IsSingle w b → b < 256
single_small (itself {b} p h) = plain_small b (and_split (plain b) (not (eqb b (byte "-"))) h).0
single_small (escaped d) = escape_small d

-- ---- classes
pub bit_span : (lo hi i : ℕ) → i < 256 → bit (span lo hi) i ≡ (leb lo i && leb i hi)
bit_span lo hi i h = bit_mask 256 i (λ b. leb lo b && leb b hi) h

span_class : (lo hi : ℕ) → lo ≤ hi → lo < 256 → Class (span lo hi)
span_class lo hi h k = record {
  some_byte = bit_some lo (span lo hi) (rw (bit_span lo hi lo k) (and_both (leb lo lo) (leb lo hi) (le→leb lo lo (le_refl lo)) (le→leb lo hi h)));
  bytes_only = mask_lt 256 (λ b. leb lo b && leb b hi);
}

member_class : {w : List ℕ} {c : ℕ} → IsMember w c → Class c
member_class (single {b} q d) = rw q (span_class b b (le_refl b) (single_small d))
member_class (range {lo} {hi} p q h d b) = rw q (span_class lo hi h (single_small d))

or_class : (c d : ℕ) → Class c → Class d → Class (bit_or c d)
or_class c d h k = record { some_byte = omega (arith, or_add_and c d, and_le_r c d); bytes_only = or_lt 256 c d h.bytes_only k.bytes_only }

pub members_class : {w : List ℕ} {c : ℕ} → IsMembers w c → Class c
members_class (member d) = member_class d
members_class (beside {d} {e} p q a b) = rw q (or_class d e (member_class a) (members_class b))

one_class : (b : ℕ) → b < 256 → Class (2 ^ b)
one_class b h = record { some_byte = pow_pos b; bytes_only = pow-lt h }

-- ---- sequences
glue_well : (h t : Seq) → WellFormed h → WellFormed t → WellFormed (glue h t)
glue_well h t a b = well (glue h t) (full h a.full) (good h a.good)
  where
    full : (h : Seq) → NonEmpty h → NonEmpty (glue h t)
    full end f = absurd f
    full (letter c r s) f = tt
    full (union m a s) f = tt

    good : (h : Seq) → Good h → Good (glue h t)
    good end g = b.good
    good (letter c r s) g = (g.0, good s g.1)
    good (union m a s) g = (g.0, g.1, good s g.2)

copies_good : (n c : ℕ) (r : Repeat) (s : Seq) → Class c → Good s → Good (copies n c r s)
copies_good zero c r s h g = g
copies_good (suc n) c r s h g = (h, copies_good n c r s h g)

copies_full : (n m c : ℕ) (r q : Repeat) (s : Seq) → 1 ≤ n + m → NonEmpty (copies n c r (copies m c q s))
copies_full zero zero c r q s h = absurd (omega arith)
copies_full zero (suc m) c r q s h = tt
copies_full (suc n) m c r q s h = tt

letter_well : (c : ℕ) (r : Repeat) → Class c → WellFormed (letter c r end)
letter_well c r h = well (letter c r end) tt (h, tt)

repeated_well : {w : List ℕ} {q : Sign} (c : ℕ) → Class c → IsSign w q → WellFormed (repeated c q)
repeated_well c h (absent p q) = rw q (letter_well c once h)
repeated_well c h (question p q) = rw q (letter_well c option h)
repeated_well c h (asterisk p q) = rw q (letter_well c star h)
repeated_well c h (cross p q) = rw q (letter_well c plus h)
repeated_well c h (braces {x} {y} p q k l b) =
    rw q (well (repeated c (times x y)) (copies_full (y - x) x c option once end (omega arith))
    (copies_good (y - x) c option (copies x c once end) h (copies_good x c once end h tt)))

bracket_well : (a : Alts) → GoodAlts a → WellFormed (bracket a)
bracket_well (last s) g = well s g.0 g.1
bracket_well (more s a) g = well (union unmarked (more s a) end) tt (tt, g, tt)

cycle_well : (a : Alts) → GoodAlts a → WellFormed (cycle a)
cycle_well a g = let h = bracket_well a g in well (cycle a) tt (tt, (h.full, h.good), tt)

grouped_well : {w : List ℕ} {r : Repeat} (a : Alts) → IsMark w r → GoodAlts a → WellFormed (grouped a r)
grouped_well a (nothing p q) g = rw q (bracket_well a g)
grouped_well a (query p q) g = rw q (cond_cases WellFormed (alts_empty a) (λ e. bracket_well a g) (λ e. well (union optional a end) tt (e, g, tt)))
grouped_well a (any_number p q) g = rw q (cycle_well a g)
grouped_well a (some_number p q) g = rw q (glue_well (bracket a) (cycle a) (bracket_well a g) (cycle_well a g))

-- ---- letters, items and so on, up to rules, with any class for the dot
module _ {dots : ℕ} (D : Class dots) where
  letter_class : {w : List ℕ} {c : ℕ} → LetterWith dots w c → Class c
  letter_class (plain_byte {b} p q h) = rw q (one_class b (plain_small b h))
  letter_class (escape {b} q d) = rw q (one_class b (escape_small d))
  letter_class (dot p q) = rw q D
  letter_class (class p d) = members_class d

  mutual
    alts_good : {w : List ℕ} {a : Alts} → AltsWith dots w a → GoodAlts a
    alts_good (only d) = let k = seq_well d in (k.full, k.good)
    alts_good (also p d b) = let k = seq_well d in (k.full, k.good, alts_good b)

    seq_well : {w : List ℕ} {s : Seq} → SeqWith dots w s → WellFormed s
    seq_well (item d) = item_well d
    seq_well (then {h} {t} p q d b) = rw q (glue_well h t (item_well d) (seq_well b))

    item_well : {w : List ℕ} {s : Seq} → ItemWith dots w s → WellFormed s
    item_well (lone {c} p q d b) = rw q (repeated_well c (letter_class d) b)
    item_well (group {a} p q d b) = rw q (grouped_well a b (alts_good d))

  pub well_with : {w : List ℕ} {s : Seq} → RuleWith dots w s → WellFormed s
  well_with (rule {a} q d) = rw q (bracket_well a (alts_good d))

-- EVERY RULE'S TREE IS WELL FORMED
pub rule_well : {w : List ℕ} {s : Seq} → IsRule w s → WellFormed s
rule_well = well_with (record { some_byte = lit≤ tt; bytes_only = lit< tt })
