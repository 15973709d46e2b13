-- WHAT A READER HAS PASSED WHERE IT STOPS CAN STILL BECOME WHAT IT READS: numbers, repeat signs, items, sequences, alternatives.
use mathlib.Core.Path.{◌≡◌, refl, sym, ap}
use mathlib.Core.Logic.{◌⊎◌, inl, inr}
use mathlib.Core.List.{List, [], ◌∷◌, ◌++◌, append_assoc, append-nil}
use Prim.Native.Nat.{ℕ, zero, suc, ◌+◌, ◌-◌, ◌*◌, ◌≤◌, max}
use native.Mathlib.Omega.{arith}
use lib.Dec.{T, T_not, eqb, leb, leb→le}
use lib.ListN.{length, length-append}
use Rattle.model.specs.Bytes.{byte, bytes, digit, digital, IsDigit}
use Rattle.model.specs.Tree.{glue, last, more, once}
use Rattle.model.specs.Grammar.{absent, also, both, braces, group, grouped, IsAlts, IsBounds, IsItem, IsNumber, IsSeq, IsSign, item, nothing, one, only, plainly, repeated, same, then, three, times, two, upto}
use Rattle.model.specs.Models.Places.{Least, Piece, piece}
use Rattle.model.specs.Models.Reader.{bad, over, reach, read_alts, read_bounds, read_braces, read_digits, read_item, read_mark, read_number, read_piece, read_seq, read_sign, stop}
use Rattle.model.proofs.Reading.Answers.{opens_long}
use Rattle.model.proofs.Reading.Decides.{item_opens, piece_item, sound_alts, sound_item, sound_mark, sound_seq}
use Rattle.model.proofs.Reading.Escapes.{digit_of}
use Rattle.model.proofs.Reading.Letters.{sound_letter}
use Rattle.model.proofs.Reading.Opens.{bind_opens, bind_past_opens, case_past_opens, cond_opens, equal_opens, map_opens, open_letter, Opens, reads, unended}
use Rattle.model.proofs.Reading.Signs.{Bounds, not_nought, sound_bounds, sound_number, sound_sign}

-- ---- numbers of at least m, and at least 1: with digits `9` they become as large as they can
nine : IsDigit (byte "9") 9
nine = digit {x = byte "9"} {d = 9} refl (omega arith)

module _ (m : ℕ) where
  abbrev Large : List ℕ → ℕ → Type 0
  Large = Least (max m 1) IsNumber

  at_number : m ≤ 999 → (l : List ℕ) → Opens Large l (bad l)
  at_number h l = unended [] (bytes "999") 999 refl (three {d = 9} {e = 9} {f = 9} refl refl (omega arith) nine nine nine, omega arith)

  open_stop : {Y : List ℕ → ℕ → Type 0} {k : List ℕ} (v : ℕ) (l : List ℕ) → Opens Y k (bad l) → Opens Y k (stop m v l)
  open_stop v l q = cond_opens (leb m v) (λ t. reads) (λ t. q)

  module _ (x : ℕ) (h : T (digital x)) (k : 1 ≤ x - byte "0") where
    at_second : m ≤ reach 2 (x - byte "0") → (l : List ℕ) → Opens Large (x ∷ l) (bad l)
    at_second i l = unended (x ∷ []) (bytes "99") (100 * (x - byte "0") + 10 * 9 + 9) refl (three {e = 9} {f = 9} refl refl k (digit_of x h) nine nine, omega arith)

    at_third : (y : ℕ) → T (digital y) → m ≤ reach 1 (10 * (x - byte "0") + (y - byte "0")) → (l : List ℕ) → Opens Large (x ∷ y ∷ l) (bad l)
    at_third y g i l =
        unended (x ∷ y ∷ []) (bytes "9") (100 * (x - byte "0") + 10 * (y - byte "0") + 9) refl
        (three {f = 9} refl refl k (digit_of x h) (digit_of y g) nine, omega arith)

    open_third : (y : ℕ) → T (digital y) → m ≤ reach 1 (10 * (x - byte "0") + (y - byte "0"))
        → (l : List ℕ) → Opens Large (x ∷ y ∷ l) (read_digits 1 m (10 * (x - byte "0") + (y - byte "0")) l)
    open_third y g i [] = open_stop (10 * (x - byte "0") + (y - byte "0")) [] (at_third y g i [])
    open_third y g i (z ∷ zs) =
        cond_opens (digital z)
        (λ f. cond_opens (leb m v)
        (λ j. cond_opens (leb m v) (λ t. reads) (λ t. absurd (T_not (leb m v) t j))) (λ j. at_third y g i (z ∷ zs)))
        (λ f. open_stop (10 * (x - byte "0") + (y - byte "0")) (z ∷ zs) (at_third y g i (z ∷ zs)))
      where
        v : ℕ
        v = 10 * (10 * (x - byte "0") + (y - byte "0")) + (z - byte "0")

    open_second : m ≤ reach 2 (x - byte "0") → (l : List ℕ) → Opens Large (x ∷ l) (read_digits 2 m (x - byte "0") l)
    open_second i [] = open_stop (x - byte "0") [] (at_second i [])
    open_second i (y ∷ ys) =
        cond_opens (digital y)
        (λ g. cond_opens (leb m (reach 1 (10 * (x - byte "0") + (y - byte "0"))))
        (λ j. open_third y g (leb→le m (reach 1 (10 * (x - byte "0") + (y - byte "0"))) j) ys) (λ j. at_second i (y ∷ ys)))
        (λ g. open_stop (x - byte "0") (y ∷ ys) (at_second i (y ∷ ys)))

  pub open_number : m ≤ 999 → (l : List ℕ) → Opens (Least (max m 1) IsNumber) l (read_number m l)
  open_number i [] = at_number i []
  open_number i (x ∷ xs) =
      cond_opens (digital x)
      (λ h. cond_opens (eqb x (byte "0"))
      (λ g. cond_opens (leb m 0) (λ j. reads) (λ j. at_number i (x ∷ xs)))
      (λ g. cond_opens (leb m (reach 2 (x - byte "0"))) (λ j. open_second x h (not_nought x h g) (leb→le m (reach 2 (x - byte "0")) j) xs) (λ j. at_number i (x ∷ xs))))
      (λ h. at_number i (x ∷ xs))

number_small : {w : List ℕ} {n : ℕ} → IsNumber w n → n ≤ 999
number_small (one p (digit q h)) = omega arith
number_small (two p q k (digit a b) (digit c d)) = omega arith
number_small (three p q k (digit a b) (digit c d) (digit e f)) = omega arith

-- ---- bounds that a sign may have
pub record Proper (w : List ℕ) (b : ℕ × ℕ) : Type 0 where
  pub is : IsBounds w b.0 b.1
  pub ordered : b.0 ≤ b.1
  pub some : 1 ≤ b.1

open_bounds : (l : List ℕ) → Opens Proper l (read_bounds l)
open_bounds l =
    case_past_opens (byte ",") l
    (λ z r p. bind_opens (sound_number 1 r) (open_number 1 (omega arith) r)
    (λ u v y r' f d. unended (byte "," ∷ u) v (0, y) (cc) (record { is = upto refl refl d.0; ordered = omega arith; some = omega (arith, d.1) }))
    (λ u y r' f d. reads))
    (bind_opens (sound_number 0 l) (open_number 0 (omega arith) l)
    (λ u v x r e d. unended u v (x, x) e (record { is = same refl d.0; ordered = omega arith; some = omega (arith, d.1) }))
    (λ u x r e a. case_past_opens (byte ",") r
    (λ z r' p. bind_opens (sound_number (max x 1) r') (open_number (max x 1) (omega (arith, number_small a.0)) r')
    (λ w v y r'' f d. unended (u ++ (byte "," ∷ w)) v (x, y) (cc (append_assoc u (byte "," ∷ w) r''))
    (record { is = both (append_assoc u (byte "," ∷ w) v) a.0 d.0; ordered = omega (arith, d.1); some = omega (arith, d.1) }))
    (λ w y r'' f d. reads))
    reads))

-- ---- signs
-- bounds were read, and `}` does not come next: with `}` they are a sign, or the number 0 is one with `,1}`
at_close : (b : ℕ × ℕ) (l u r : List ℕ) → l ≡ u ++ r → Bounds u b → Opens IsSign (byte "{" ∷ l) (bad r)
at_close b l u r e d = go d.some_or_nought
  where
    f : byte "{" ∷ l ≡ byte "{" ∷ (u ++ r)
    f = ap (λ (t : List ℕ). byte "{" ∷ t) e

    go : (1 ≤ b.1) ⊎ IsNumber u 0 → Opens IsSign (byte "{" ∷ l) (bad r)
    go (inl h) = unended (byte "{" ∷ u) (bytes "}") (times b.0 b.1) f (braces refl refl d.ordered h d.is)
    go (inr n) =
        unended (byte "{" ∷ u) (bytes ",1}") (times 0 1) f
        (braces {x = 0} {y = 1} (ap (λ (t : List ℕ). byte "{" ∷ t) (sym (append_assoc u (bytes ",1") (bytes "}")))) refl (omega arith) (omega arith)
        (both refl n (one refl (digit {x = byte "1"} {d = 1} refl (omega arith)))))

open_braces : (l : List ℕ) → Opens IsSign (byte "{" ∷ l) (read_braces l)
open_braces l =
    bind_opens (sound_bounds l) (open_bounds l)
    (λ u v b r e d. unended (byte "{" ∷ u) (v ++ bytes "}") (times b.0 b.1) (ap (λ (t : List ℕ). byte "{" ∷ t) e)
    (braces (ap (λ (t : List ℕ). byte "{" ∷ t) (sym (append_assoc u v (bytes "}")))) refl d.ordered d.some d.is))
    (λ u b r e d. cond_opens (leb 1 b.1)
    (λ g. bind_past_opens (byte "}") r (at_close b l u r e d) (λ z r' p. reads))
    (λ g. at_close b l u r e d))

pub open_sign : (l : List ℕ) → Opens IsSign l (read_sign l)
open_sign [] = reads
open_sign (x ∷ xs) =
    equal_opens x (byte "?") (λ e. reads)
    (equal_opens x (byte "*") (λ e. reads)
    (equal_opens x (byte "+") (λ e. reads)
    (equal_opens x (byte "{") (λ e. rw e (open_braces xs)) reads)))

-- a group's sign, or none, is always read
open_mark : (l : List ℕ) → Opens (λ w m. ⊥) l (read_mark l)
open_mark [] = reads
open_mark (x ∷ xs) = equal_opens x (byte "?") (λ e. reads) (equal_opens x (byte "*") (λ e. reads) (equal_opens x (byte "+") (λ e. reads) reads))

-- ---- items, sequences, alternatives
pub open_piece : (l : List ℕ) → Opens Piece l (read_piece l)
open_piece l =
    bind_opens (sound_letter l) (open_letter l)
    (λ u v c r e d. unended u v (repeated c (plainly once)) e (piece (sym (append-nil (u ++ v))) refl d (absent refl refl)))
    (λ u c r e d. bind_opens (sound_sign r) (open_sign r)
    (λ w v q r' f b. unended (u ++ w) v (repeated c q) (cc (append_assoc u w r')) (piece (append_assoc u w v) refl d b))
    (λ w q r' f b. reads))

mutual
  pub open_alts : (n : ℕ) (l : List ℕ) → 3 * length l + 3 ≤ n → Opens IsAlts l (read_alts n l)
  open_alts zero l k = absurd (omega arith)
  open_alts (suc n) l k =
      bind_opens (sound_seq n l) (open_seq n l (omega arith)) (λ u v s r e d. unended u v (last s) e (only d)) (λ u s r e d.
      case_past_opens (byte "|") r
      (λ z r' p. bind_opens (sound_alts n r') (open_alts n r' (omega (arith, ap length e, length-append u r, ap length p)))
      (λ w v a r'' f b. unended (u ++ (byte "|" ∷ w)) v (more s a) (cc (append_assoc u (byte "|" ∷ w) r'')) (also (append_assoc u (byte "|" ∷ w) v) d b))
      (λ w a r'' f b. reads))
      reads)

  pub open_seq : (n : ℕ) (l : List ℕ) → 3 * length l + 2 ≤ n → Opens IsSeq l (read_seq n l)
  open_seq zero l k = absurd (omega arith)
  open_seq (suc n) l k =
      bind_opens (sound_item n l) (open_item n l (omega arith)) (λ u v s r e d. unended u v s e (item d)) (λ u h r e d.
      cond_opens (over r) (λ g. reads)
      (λ g. bind_opens (sound_seq n r) (open_seq n r (omega (arith, ap length e, length-append u r, opens_long u (item_opens d))))
      (λ w v t r' f b. unended (u ++ w) v (glue h t) (cc (append_assoc u w r')) (then (append_assoc u w v) refl d b))
      (λ w t r' f b. reads)))

  pub open_item : (n : ℕ) (l : List ℕ) → 3 * length l + 1 ≤ n → Opens IsItem l (read_item n l)
  open_item zero l k = absurd (omega arith)
  open_item (suc n) l k =
      case_past_opens (byte "(") l
      (λ z r p. bind_opens (sound_alts n r) (open_alts n r (omega (arith, ap length p)))
      (λ u v a r' e d. unended (byte "(" ∷ u) (v ++ bytes ")") (grouped a once) (cc)
      (group (ap (λ (t : List ℕ). byte "(" ∷ t) (sym (append_assoc u v (bytes ")")))) refl d (nothing refl refl)))
      (λ u a r' e d. bind_past_opens (byte ")") r'
      (unended (byte "(" ∷ u) (bytes ")") (grouped a once) (cc) (group refl refl d (nothing refl refl)))
      (λ y r'' q. bind_opens (sound_mark r'') (open_mark r'') (λ w v m r''' f b. absurd b) (λ w m r''' f b. reads))))
      (map_opens (open_piece l) (λ u v s r e d. unended u v s e (piece_item d)))
