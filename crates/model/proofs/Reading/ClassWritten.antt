-- THE PLAIN WRITING OF A CLASS IS A LETTER OF THAT CLASS. The runs that the writing goes through, from any byte on, make up just the bytes of the
-- class from there on; two classes with the same bytes are the same number.
use mathlib.Core.Path.{◌≡◌, refl, sym, ap, ◌∙◌, subst}
use mathlib.Core.Logic.{◌⊎◌, inl, inr}
use mathlib.Core.Bool.{Bool, true, false, not, ◌&&◌, ◌||◌, cond, and-false, or-false}
use mathlib.Core.List.{List, [], ◌∷◌, ◌++◌, append-nil}
use Prim.Native.Nat.{ℕ, zero, suc, ◌+◌, ◌-◌, ◌/◌, ◌%◌, ◌^◌, ◌≤◌, ◌<◌}
use native.Mathlib.Nat.{eq-or-lt_of_le, le_of_suc-le-suc}
use native.Mathlib.Omega.{arith}
use lib.Dec.{T, eqb, leb, ltb, eqb→eq, ltb→lt, nltb→le}
use lib.Bits.{bit_or}
use lib.Pow.{pow_pos}
use Rattle.model.specs.Lists.{within}
use Rattle.model.specs.Bits.{bit}
use Rattle.model.specs.Bytes.{byte, bytes, decimal, digit, IsEscape, IsHex, number, plain, sign, signs, upper}
use Rattle.model.specs.Grammar.{bare, beside, class, dot, escape, escaped, IsMember, IsMembers, IsSingle, itself, LetterWith, member, plain_byte, range, single, span}
use Rattle.model.specs.Writing.{byte_writing, class_with, hex_digit, inside, outside, run_writing, sole}
use Rattle.model.proofs.Laws.Bits.{bit_zero}
use Rattle.model.proofs.Laws.Bool.{and_both, and_split, cond_cases, is_false, is_true, le_false, le_or_lt, le_true, or_none}
use Rattle.model.proofs.Reading.WellFormed.{bit_span, Class, members_class}
use Rattle.model.proofs.Words.Bits.{bit_ext, bit-or}

-- ---- a byte
hex_is : (d : ℕ) → d ≤ 15 → IsHex (hex_digit d) d
hex_is d h = cond_cases (λ x. IsHex x d) (ltb d 10) (λ t. decimal (digit refl (omega (arith, ltb→lt d 10 t)))) (λ t. upper refl (nltb→le d 10 t) h)

-- w is the byte b itself, or an escape of it: what a single and a letter have in common
data Text (w : List ℕ) (b : ℕ) : Type 0 where
  as_is : w ≡ b ∷ [] → T (bare b) → Text w b
  as_escape : IsEscape w b → Text w b

byte_text : (b : ℕ) → b < 256 → Text (byte_writing b) b
byte_text b h =
    cond_cases (λ w. Text w b) (within b (byte "-" ∷ signs)) (λ t. as_escape (sign refl t)) (λ t.
    cond_cases (λ w. Text w b) (leb 33 b && leb b 126) (λ k. as_is refl (is-bare k (or_none (eqb b (byte "-")) (within b signs) t))) (λ k.
    as_escape (number {h = b / 16} {k = b % 16} refl (omega arith) (hex_is (b / 16) (omega arith)) (hex_is (b % 16) (omega arith)))))
  where
    is-bare : T (leb 33 b && leb b 126) → T (not (eqb b (byte "-"))) × T (not (within b signs)) → T (bare b)
    is-bare k m =
        let r = and_split (leb 33 b) (leb b 126) k in
        and_both (plain b) (not (eqb b (byte "-")))
        (and_both (leb 33 b) (leb b 126 && not (within b signs)) r.0 (and_both (leb b 126) (not (within b signs)) r.1 m.1))
        m.0

byte_single : (b : ℕ) → b < 256 → IsSingle (byte_writing b) b
byte_single b h = go (byte_text b h)
  where
    go : Text (byte_writing b) b → IsSingle (byte_writing b) b
    go (as_is p k) = itself p k
    go (as_escape d) = escaped d

byte_letter : {dots : ℕ} (b : ℕ) → b < 256 → LetterWith dots (byte_writing b) (2 ^ b)
byte_letter {dots} b h = go (byte_text b h)
  where
    go : Text (byte_writing b) b → LetterWith dots (byte_writing b) (2 ^ b)
    go (as_is p k) = plain_byte p refl (and_split (plain b) (not (eqb b (byte "-"))) k).0
    go (as_escape d) = escape refl d

-- ---- a run
run_member : (a b : ℕ) → a ≤ b → b < 256 → IsMember (run_writing a b) (span a b)
run_member a b h k =
    cond_cases (λ w. IsMember w (span a b)) (eqb a b)
    (λ t. single (ap (span a) (sym (eqb→eq a b t))) (byte_single a (omega arith)))
    (λ t. range refl refl h (byte_single a (omega arith)) (byte_single b k))

-- the byte i is in the class c and is at least b
abbrev from : ℕ → ℕ → ℕ → Bool
from c b i = leb b i && bit c i

-- the bytes from a on, and below b, are in c
abbrev Run : ℕ → ℕ → ℕ → Type 0
Run c a b = (i : ℕ) → a ≤ i → i < b → bit c i ≡ true

-- a run goes on with the next byte
longer : (c a b : ℕ) → Run c a b → bit c b ≡ true → Run c a (suc b)
longer c a b R e i h k = go (eq-or-lt_of_le (le_of_suc-le-suc k))
  where
    go : (i ≡ b) ⊎ (i < b) → bit c i ≡ true
    go (inl p) = rw p e
    go (inr l) = R i h l

-- a byte that is not in c can be passed over
from_next : (c b : ℕ) → bit c b ≡ false → (i : ℕ) → from c (suc b) i ≡ from c b i
from_next c b e i = go (le_or_lt b i)
  where
    at_least : (b ≡ i) ⊎ (b < i) → from c (suc b) i ≡ from c b i
    at_least (inl p) = rw (← p, e, and-false (leb (suc b) b), and-false (leb b b))
    at_least (inr k) = rw (le_true (suc b) i k, le_true b i (omega arith))

    go : (b ≤ i) ⊎ (i < b) → from c (suc b) i ≡ from c b i
    go (inl h) = at_least (eq-or-lt_of_le h)
    go (inr k) = rw (le_false (suc b) i (omega arith), le_false b i k)

-- a run of c, and what c has from its end on, are what c has from its start on
run-from : (c a b : ℕ) → a < b → Run c a b → (i : ℕ) → ((leb a i && leb i (b - 1)) || from c b i) ≡ from c a i
run-from c a b h R i = go (le_or_lt a i) (le_or_lt b i)
  where
    go : (a ≤ i) ⊎ (i < a) → (b ≤ i) ⊎ (i < b) → ((leb a i && leb i (b - 1)) || from c b i) ≡ from c a i
    go (inr l) o = rw (le_false a i l, le_false b i (omega arith))
    go (inl l) (inl m) = rw (le_true a i l, le_false i (b - 1) (omega arith), le_true b i m)
    go (inl l) (inr m) = rw (le_true a i l, le_true i (b - 1) (omega arith), R i l m)

-- ---- the runs of a class
-- w is members, and they make what c has from b on
record Made (c b : ℕ) (w : List ℕ) : Type 0 where
  made : ℕ
  members : IsMembers w made
  bits : (i : ℕ) → i < 256 → bit made i ≡ from c b i

-- or w is nothing, and c has nothing from b on
data Rest (c b : ℕ) (w : List ℕ) : Type 0 where
  none_left : w ≡ [] → ((i : ℕ) → i < 256 → from c b i ≡ false) → Rest c b w
  some_left : Made c b w → Rest c b w

-- a byte that is not in c leaves the rest as it is
skip : (c b : ℕ) (w : List ℕ) → bit c b ≡ false → Rest c (suc b) w → Rest c b w
skip c b w e (none_left p N) = none_left p (λ i k. sym (from_next c b e i) ∙ N i k)
skip c b w e (some_left m) = some_left (record { made = m.made; members = m.members; bits = λ i k. m.bits i k ∙ from_next c b e i })

-- a run of c, and then the rest
close_run : (c a b : ℕ) (w : List ℕ) → a < b → b ≤ 256 → Run c a b → Rest c b w → Made c a (run_writing a (b - 1) ++ w)
close_run c a b w h k R (none_left p N) = record {
  made = span a (b - 1);
  members = rw (p, append-nil (run_writing a (b - 1))) (member (run_member a (b - 1) (omega arith) (omega arith)));
  bits = λ i l. bit_span a (b - 1) i l ∙ sym (or-false (leb a i && leb i (b - 1))) ∙ (rw (N i l) at (run-from c a b h R i));
}
close_run c a b w h k R (some_left m) = record {
  made = bit_or (span a (b - 1)) m.made;
  members = beside refl refl (run_member a (b - 1) (omega arith) (omega arith)) m.members;
  bits = λ i l. rw (bit-or i (span a (b - 1)) m.made, bit_span a (b - 1) i l, m.bits i l) (run-from c a b h R i);
}

-- as the writing goes: outside a run, and inside one that began in a
mutual
  outside_rest : (n c b : ℕ) → n + b ≡ 256 → Rest c b (outside n c b)
  outside_rest zero c b e = none_left refl (λ i h. rw (le_false b i (omega arith)))
  outside_rest (suc n) c b e =
      cond_cases (Rest c b) (bit c b)
      (λ t. some_left (inside_made n c (suc b) b (omega arith) (omega arith) (longer c b b (λ i h k. absurd (omega arith)) (is_true (bit c b) t))))
      (λ t. skip c b (outside n c (suc b)) (is_false (bit c b) t) (outside_rest n c (suc b) (omega arith)))

  inside_made : (n c b a : ℕ) → n + b ≡ 256 → a < b → Run c a b → Made c a (inside n c b a)
  inside_made zero c b a e h R =
      rw append-nil at (close_run c a 256 [] (omega arith) (omega arith) (λ i l k. R i l (omega arith)) (none_left refl (λ i k. rw (le_false 256 i k))))
  inside_made (suc n) c b a e h R =
      cond_cases (Made c a) (bit c b)
      (λ t. inside_made n c (suc b) a (omega arith) (omega arith) (longer c a b R (is_true (bit c b) t)))
      (λ t. close_run c a b (outside n c (suc b)) h (omega arith) R
      (skip c b (outside n c (suc b)) (is_false (bit c b) t) (outside_rest n c (suc b) (omega arith))))

-- ---- a class
-- members that make what c has from 0 on make c
all_members : (c : ℕ) (w : List ℕ) → Class c → Rest c 0 w → IsMembers w c
all_members c w h (none_left p N) =
    let z : c ≡ 0 = bit_ext 256 c 0 h.bytes_only (pow_pos 256) (λ i k. (rw (le_true 0 i (omega arith)) at (N i k)) ∙ sym (bit_zero i)) in
    absurd (omega (arith, h.some_byte))
all_members c w h (some_left m) =
    let small = (members_class m.members).bytes_only in
    let z : m.made ≡ c = bit_ext 256 m.made c small h.bytes_only (λ i k. m.bits i k ∙ rw (le_true 0 i (omega arith))) in
    subst (IsMembers w) z m.members

-- the byte that `sole` finds is the only one of c
sole_is : (n c b : ℕ) → sole n c b < 256 → c ≡ 2 ^ sole n c b
sole_is zero c b = λ h. absurd (omega arith)
sole_is (suc n) c b = cond_cases (λ x. x < 256 → c ≡ 2 ^ x) (eqb c (2 ^ b)) (λ t h. eqb→eq c (2 ^ b) t) (λ t. sole_is n c (suc b))

-- the writing of a class by its only byte, whether it is the dot's, and its runs
abbrev pub chosen : (b : ℕ) (dots : Bool) (runs : List ℕ) → List ℕ
chosen b dots runs = cond (ltb b 256) (byte_writing b) (cond dots (bytes ".") ((byte "[" ∷ runs) ++ (byte "]" ∷ [])))

-- THE WRITING OF A CLASS IS A LETTER OF THAT CLASS, whatever the dot's is
pub class_letter : (dots c : ℕ) → Class c → LetterWith dots (class_with dots c) c
class_letter dots c h = choose (sole 256 c 0) 256 (sole_is 256 c 0) (all_members c (outside 256 c 0) h (outside_rest 256 c 0 refl))
  where
    choose : (b n : ℕ) → (b < 256 → c ≡ 2 ^ b) → IsMembers (outside n c 0) c → LetterWith dots (chosen b (eqb c dots) (outside n c 0)) c
    choose b n s m =
        cond_cases (λ w. LetterWith dots w c) (ltb b 256) (λ t. let k = ltb→lt b 256 t in rw (s k) (byte_letter b k)) (λ t.
        cond_cases (λ w. LetterWith dots w c) (eqb c dots) (λ e. dot refl (eqb→eq c dots e)) (λ e. class refl m))
