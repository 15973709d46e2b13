-- WHAT A READER HAS PASSED WHERE IT STOPS CAN STILL BECOME WHAT IT READS: some bytes complete it. Letters and their parts.
use mathlib.Core.Path.{◌≡◌, refl, sym, ap, ◌∙◌}
use mathlib.Core.Bool.{Bool, not, cond, ◌&&◌}
use mathlib.Core.List.{List, [], ◌∷◌, ◌++◌, append_assoc}
use Prim.Native.Nat.{ℕ, zero, suc, ◌+◌, ◌*◌, ◌^◌, ◌≤◌, ◌<◌}
use native.Mathlib.Omega.{arith}
use lib.Dec.{T, eqb, leb, eqb→eq, leb→le}
use lib.Bits.{bit_or}
use lib.ListN.{length, length-append}
use Rattle.model.specs.Lists.{within}
use Rattle.model.specs.Bytes.{byte, bytes, hexadecimal, IsEscape, IsHex, number, plain, signs, upper}
use Rattle.model.specs.Grammar.{bare, escape, escaped, IsLetter, IsMember, IsSingle, member, plain_byte, range, single, span}
use Rattle.model.specs.Models.Places.{Least}
use Rattle.model.specs.Models.Reader.{bad, bind, case, got, hex_value, past, Read, read_escape, read_hex, read_hexes, read_letter, read_member, read_members, read_single}
use Rattle.model.proofs.Laws.Bool.{and_split, cond_cases}
use Rattle.model.proofs.Reading.Answers.{past_cases, Sound, stopped, took}
use Rattle.model.proofs.Reading.Escapes.{hex_of, sound_escape}
use Rattle.model.proofs.Reading.Letters.{all_of, Closed, closed, inside_long, member_inside, one_more, sound_member, sound_single}
use Rattle.model.proofs.Reading.WellFormed.{single_small}

-- l is bytes u, which v would make a text of X, and then the bytes at which the reader stopped
pub data Opens {A : Type 0} (X : List ℕ → A → Type 0) (l : List ℕ) : Read A → Type 0 where
  reads : {a : A} {r : List ℕ} → Opens X l (got a r)
  unended : (u v : List ℕ) (a : A) {r : List ℕ} → l ≡ u ++ r → X (u ++ v) a → Opens X l (bad r)

-- ---- each way to go on
module _ {B : Type 0} {Y : List ℕ → B → Type 0} {k : List ℕ} where
  pub bind_opens : {A : Type 0} {X Z : List ℕ → A → Type 0} {l : List ℕ} {m : Read A} {f : A → List ℕ → Read B} → Sound X l m → Opens Z l m
      → ((u v : List ℕ) (a : A) (r : List ℕ) → l ≡ u ++ r → Z (u ++ v) a → Opens Y k (bad r))
      → ((u : List ℕ) (a : A) (r : List ℕ) → l ≡ u ++ r → X u a → Opens Y k (f a r)) → Opens Y k (bind m f)
  bind_opens (took u {a} {r} e d) reads g h = h u a r e d
  bind_opens stopped (unended u v a {r} e d) g h = g u v a r e d

  pub map_opens : {X : List ℕ → B → Type 0} {l : List ℕ} {m : Read B} → Opens X l m
      → ((u v : List ℕ) (a : B) (r : List ℕ) → l ≡ u ++ r → X (u ++ v) a → Opens Y k (bad r)) → Opens Y k m
  map_opens reads g = reads
  map_opens (unended u v a {r} e d) g = g u v a r e d

  pub cond_opens : (b : Bool) {m n : Read B} → (T b → Opens Y k m) → (T (not b) → Opens Y k n) → Opens Y k (cond b m n)
  cond_opens b f g = cond_cases (Opens Y k) b f g

  pub equal_opens : (y x : ℕ) {m n : Read B} → (y ≡ x → Opens Y k m) → Opens Y k n → Opens Y k (cond (eqb y x) m n)
  equal_opens y x f g = cond_opens (eqb y x) (λ h. f (eqb→eq y x h)) (λ h. g)

  pub case_past_opens : (x : ℕ) (r : List ℕ) {f : Unit {0} → List ℕ → Read B} {n : Read B}
      → ((z : Unit {0}) (r' : List ℕ) → r ≡ x ∷ r' → Opens Y k (f z r')) → Opens Y k n → Opens Y k (case (past x r) f n)
  case_past_opens x r {f} {n} h g = past_cases (λ m. Opens Y k (case m f n)) x r (h tt) g

  pub bind_past_opens : (x : ℕ) (r : List ℕ) {f : Unit {0} → List ℕ → Read B} → Opens Y k (bad r)
      → ((z : Unit {0}) (r' : List ℕ) → r ≡ x ∷ r' → Opens Y k (f z r')) → Opens Y k (bind (past x r) f)
  bind_past_opens x r {f} g h = past_cases (λ m. Opens Y k (bind m f)) x r (h tt) g

-- ---- escapes and singles of at least lo: `\xFF` will do
last_hex : IsHex (byte "F") 15
last_hex = upper {x = byte "F"} {d = 15} refl (omega arith) (omega arith)

module _ (lo : ℕ) (h : lo ≤ 255) where
  at_hexes : (l : List ℕ) → Opens (Least lo IsEscape) (byte "\\" ∷ byte "x" ∷ l) (bad l)
  at_hexes l = unended (bytes "\\x") (bytes "FF") 255 refl (number {h = 15} {k = 15} refl refl last_hex last_hex, h)

  at_escape : (l : List ℕ) → Opens (Least lo IsEscape) (byte "\\" ∷ l) (bad l)
  at_escape l = unended (bytes "\\") (bytes "xFF") 255 refl (number {h = 15} {k = 15} refl refl last_hex last_hex, h)

  at_single : (l : List ℕ) → Opens (Least lo IsSingle) l (bad l)
  at_single l = unended [] (bytes "\\xFF") 255 refl (escaped (number {h = 15} {k = 15} refl refl last_hex last_hex), h)

  open_hex : (x : ℕ) → IsHex x (hex_value x) → lo ≤ 16 * hex_value x + 15
      → (l : List ℕ) → Opens (Least lo IsEscape) (byte "\\" ∷ byte "x" ∷ x ∷ l) (read_hex lo (hex_value x) l)
  open_hex x d k [] = unended (byte "\\" ∷ byte "x" ∷ x ∷ []) (bytes "F") (16 * hex_value x + 15) refl (number refl refl d last_hex, k)
  open_hex x d k (y ∷ ys) =
      cond_opens (hexadecimal y && leb lo (16 * hex_value x + hex_value y)) (λ g. reads)
      (λ g. unended (byte "\\" ∷ byte "x" ∷ x ∷ []) (bytes "F") (16 * hex_value x + 15) refl (number refl refl d last_hex, k))

  open_hexes : (l : List ℕ) → Opens (Least lo IsEscape) (byte "\\" ∷ byte "x" ∷ l) (read_hexes lo l)
  open_hexes [] = at_hexes []
  open_hexes (x ∷ xs) =
      cond_opens (hexadecimal x && leb lo (16 * hex_value x + 15))
      (λ g. let k = and_split (hexadecimal x) (leb lo (16 * hex_value x + 15)) g in open_hex x (hex_of x k.0) (leb→le lo (16 * hex_value x + 15) k.1) xs)
      (λ g. at_hexes (x ∷ xs))

  open_escape : (l : List ℕ) → Opens (Least lo IsEscape) (byte "\\" ∷ l) (read_escape lo l)
  open_escape [] = at_escape []
  open_escape (x ∷ xs) =
      cond_opens (within x (byte "-" ∷ signs)) (λ g. cond_opens (leb lo x) (λ k. reads) (λ k. at_escape (x ∷ xs)))
      (λ g. equal_opens x (byte "x") (λ e. rw e (open_hexes xs)) (at_escape (x ∷ xs)))

  pub open_single : (l : List ℕ) → Opens (Least lo IsSingle) l (read_single lo l)
  open_single [] = at_single []
  open_single (x ∷ xs) =
      cond_opens (bare x) (λ g. cond_opens (leb lo x) (λ k. reads) (λ k. at_single (x ∷ xs)))
      (λ g. equal_opens x (byte "\\")
      (λ e. map_opens (open_escape xs) (λ u v b r f d. unended u v b (ap (λ (y : ℕ). y ∷ xs) e ∙ f) (escaped d.0, d.1))) (at_single (x ∷ xs)))

-- ---- classes
open_member : (l : List ℕ) → Opens IsMember l (read_member l)
open_member l =
    bind_opens (sound_single 0 l) (open_single 0 (omega arith) l) (λ u v b r e d. unended u v (span b b) e (single refl d.0)) (λ u lo r e d.
    case_past_opens (byte "-") r
    (λ z r' p. bind_opens (sound_single lo r') (open_single lo (omega (arith, single_small d.0)) r')
    (λ w v hi r'' f b. unended (u ++ (byte "-" ∷ w)) v (span lo hi) (cc (append_assoc u (byte "-" ∷ w) r''))
    (range (append_assoc u (byte "-" ∷ w) v) refl b.1 d.0 b.0))
    (λ w hi r'' f b. reads))
    reads)

open_members : (n c : ℕ) (l : List ℕ) → length l < n → Opens (Closed c) l (read_members n c l)
open_members zero c l h = absurd (omega arith)
open_members (suc n) c l h =
    bind_opens (sound_member l) (open_member l)
    (λ u v d r e m. unended u (v ++ bytes "]") (bit_or c d) e (closed (sym (append_assoc u v (bytes "]"))) refl (member m)))
    (λ u d r e m. case_past_opens (byte "]") r (λ z r' p. reads)
    (map_opens (open_members n (bit_or c d) r (omega (arith, ap length e, length-append u r, inside_long u (member_inside m))))
    (λ w v z r' f b. unended (u ++ w) v z (cc (append_assoc u w r')) (rw (append_assoc u w v) (one_more c m b)))))

-- ---- letters: `a` will do
at_letter : (l : List ℕ) → Opens IsLetter l (bad l)
at_letter l = unended [] (bytes "a") (2 ^ byte "a") refl (plain_byte refl refl tt)

pub open_letter : (l : List ℕ) → Opens IsLetter l (read_letter l)
open_letter [] = at_letter []
open_letter (x ∷ xs) =
    cond_opens (plain x) (λ g. reads) (λ g.
    equal_opens x (byte ".") (λ e. reads)
    (equal_opens x (byte "[") (λ e. map_opens (open_members (suc (length xs)) 0 xs (omega arith)) (λ u v c r f d. unended (byte "[" ∷ u) v c (cc) (all_of d)))
    (equal_opens x (byte "\\")
    (λ e. bind_opens (sound_escape 0 xs) (open_escape 0 (omega arith) xs) (λ u v b r f d. unended u v (2 ^ b) (cc) (escape refl d.0)) (λ u b r f d. reads))
    (at_letter (x ∷ xs)))))
