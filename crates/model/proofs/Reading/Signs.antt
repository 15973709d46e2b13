-- Repeat signs: the reader and the grammar agree. A number goes on as long as digits come, `,` and `}` are no digits, and a letter's sign is
-- absent exactly if none of `? * + {` comes next.
use mathlib.Core.Path.{◌≡◌, ap₂, refl, subst, sym}
use mathlib.Core.Logic.{◌⊎◌, inl, inr}
use mathlib.Core.Bool.{false, not}
use mathlib.Core.List.{List, [], ◌∷◌, ◌++◌, append_assoc}
use Prim.Native.Nat.{ℕ, zero, suc, ◌+◌, ◌-◌, ◌*◌, ◌≤◌, max}
use native.Mathlib.Omega.{arith}
use lib.Dec.{T, T_not, eqb, leb, eqb→eq, leb→le}
use Rattle.model.specs.Lists.{within}
use Rattle.model.specs.Bytes.{byte, bytes, digit, digital, IsDigit}
use Rattle.model.specs.Tree.{once}
use Rattle.model.specs.Grammar.{absent, asterisk, both, braces, cross, IsBounds, IsNumber, IsSign, one, plainly, question, same, Sign, three, two, upto}
use Rattle.model.specs.Models.Places.{free, halts, Least}
use Rattle.model.specs.Models.Reader.{bad, got, past, reach, read_bounds, read_braces, read_digits, read_number, read_sign, stop}
use Rattle.model.proofs.Laws.Bool.{is_false, is_true, le_true, unequal}
use Rattle.model.proofs.Reading.Answers.{bind_past_sound, bind_sound, case_past_sound, cond_sound, equal_sound, parted, past_other, Sound, stopped, took}
use Rattle.model.proofs.Reading.Escapes.{digit_of, digit_value, digital_of}

-- ---- numbers
-- the digits u mean v, and no digit follows them
sound_stop : (m v : ℕ) (l u r : List ℕ) → l ≡ u ++ r → IsNumber u v → Sound (Least m IsNumber) l (stop m v r)
sound_stop m v l u r e d = cond_sound (leb m v) (λ h. took u e (d, leb→le m v h)) (λ h. stopped)

-- after a first digit x that is not `0`: at most a third digit, at most a second and a third
module _ (m x : ℕ) (h : T (digital x)) (k : 1 ≤ x - byte "0") where
  sound_third : (y : ℕ) → T (digital y) → (l : List ℕ) → Sound (Least m IsNumber) (x ∷ y ∷ l) (read_digits 1 m (10 * (x - byte "0") + (y - byte "0")) l)
  sound_third y g [] = sound_stop m _ _ (x ∷ y ∷ []) [] refl (two refl refl k (digit_of x h) (digit_of y g))
  sound_third y g (z ∷ zs) =
      cond_sound (digital z)
      (λ f. cond_sound (leb m (10 * (10 * (x - byte "0") + (y - byte "0")) + (z - byte "0")))
      (λ j. sound_stop m _ _ (x ∷ y ∷ z ∷ []) zs refl (three refl (omega arith) k (digit_of x h) (digit_of y g) (digit_of z f))) (λ j. stopped))
      (λ f. sound_stop m _ _ (x ∷ y ∷ []) (z ∷ zs) refl (two refl refl k (digit_of x h) (digit_of y g)))

  sound_second : (l : List ℕ) → Sound (Least m IsNumber) (x ∷ l) (read_digits 2 m (x - byte "0") l)
  sound_second [] = sound_stop m _ _ (x ∷ []) [] refl (one refl (digit_of x h))
  sound_second (y ∷ ys) =
      cond_sound (digital y)
      (λ g. cond_sound (leb m (reach 1 (10 * (x - byte "0") + (y - byte "0")))) (λ i. sound_third y g ys) (λ i. stopped))
      (λ g. sound_stop m _ _ (x ∷ []) (y ∷ ys) refl (one refl (digit_of x h)))

-- a digit that is not `0` means at least 1
pub not_nought : (x : ℕ) → T (digital x) → T (not (eqb x (byte "0"))) → 1 ≤ x - byte "0"
not_nought x h k = go (digit_of x h) (x - byte "0") refl
  where
    go : IsDigit x (x - byte "0") → (d : ℕ) → x - byte "0" ≡ d → 1 ≤ x - byte "0"
    go (digit p q) zero e = let z : x ≡ byte "0" = omega arith in absurd (rw z at k)
    go (digit p q) (suc d) e = omega arith

pub sound_number : (m : ℕ) (l : List ℕ) → Sound (Least m IsNumber) l (read_number m l)
sound_number m [] = stopped
sound_number m (x ∷ xs) =
    cond_sound (digital x)
    (λ h. cond_sound (eqb x (byte "0"))
    (λ g. cond_sound (leb m 0) (λ i. took (x ∷ []) refl (one refl (digit (omega (arith, eqb→eq)) (omega arith)), leb→le m 0 i)) (λ i. stopped))
    (λ g. cond_sound (leb m (reach 2 (x - byte "0"))) (λ i. sound_second m x h (not_nought x h g) xs) (λ i. stopped)))
    (λ h. stopped)

-- a number ends where no digit comes next
digits_halt : (k m v : ℕ) (r : List ℕ) → m ≤ v → T (halts r) → read_digits k m v r ≡ got v r
digits_halt zero m v r g h = rw (le_true m v g)
digits_halt (suc k) m v [] g h = rw (le_true m v g)
digits_halt (suc k) m v (x ∷ xs) g h = rw (is_false (digital x) h, le_true m v g)

-- a digit that means at least 1 is not `0`
leading : {x d : ℕ} → IsDigit x d → 1 ≤ d → eqb x (byte "0") ≡ false
leading (digit {x} p q) h = unequal x (byte "0") (omega arith)

digit_small : {x d : ℕ} → IsDigit x d → d ≤ 9
digit_small (digit p h) = h

pub complete_number : {w : List ℕ} {n : ℕ} (m : ℕ) → m ≤ n → IsNumber w n → (r : List ℕ) → T (halts r) → read_number m (w ++ r) ≡ got n r
complete_number m g (one {n = zero} {x} p (digit q h)) r f = rw (p, q, le_true m 0 g)
complete_number m g (one {n = suc n} {x} p d) r f =
    rw (p, is_true (digital x) (digital_of d), leading d (omega arith), digit_value d, le_true m (10 * (10 * suc n + 9) + 9) (omega arith))
    (digits_halt 2 m (suc n) r g f)
complete_number m g (two {n} {x} {y} {d} {e} p q k a b) r f =
    rw (
      p,
      is_true (digital x) (digital_of a),
      leading a k,
      is_true (digital y) (digital_of b),
      digit_value a,
      digit_value b,
      le_true m (10 * (10 * d + 9) + 9) (omega (arith, digit_small b)),
      le_true m (10 * (10 * d + e) + 9) (omega arith),
      q,
    )
    (subst (λ (v : ℕ). read_digits 1 m v r ≡ got (10 * d + e) r) (sym (ap₂ (λ (i j : ℕ). 10 * i + j) (digit_value a) (digit_value b)))
    (digits_halt 1 m (10 * d + e) r (omega arith) f))
complete_number m g (three {n} {x} {y} {z} {d} {e} {f = i} p q k a b c) r f =
    let v : 10 * (10 * d + e) + i ≡ n = omega arith in
    rw (
      p,
      is_true (digital x) (digital_of a),
      leading a k,
      is_true (digital y) (digital_of b),
      is_true (digital z) (digital_of c),
      digit_value a,
      digit_value b,
      digit_value c,
      le_true m (10 * (10 * d + 9) + 9) (omega (arith, digit_small b, digit_small c)),
      le_true m (10 * (10 * d + e) + 9) (omega (arith, digit_small c)),
      le_true m (10 * (10 * d + e) + i) (omega arith),
      v,
    )

-- no number begins with `,`
number_past : {w : List ℕ} {n : ℕ} → IsNumber w n → (r : List ℕ) → past (byte ",") (w ++ r) ≡ bad (w ++ r)
number_past (one {x} p d) r = rw p (past_other digital (byte ",") x r (digital_of d) tt)
number_past (two {x} {y} p q k a b) r = rw p (past_other digital (byte ",") x (y ∷ r) (digital_of a) tt)
number_past (three {x} {y} {z} p q k a b c) r = rw p (past_other digital (byte ",") x (y ∷ z ∷ r) (digital_of a) tt)

-- ---- bounds
-- in order, and at least 1 or just the number 0
pub record Bounds (w : List ℕ) (b : ℕ × ℕ) : Type 0 where
  pub is : IsBounds w b.0 b.1
  pub ordered : b.0 ≤ b.1
  pub some_or_nought : (1 ≤ b.1) ⊎ IsNumber w 0

some_or : {u : List ℕ} (x : ℕ) → IsNumber u x → (1 ≤ x) ⊎ IsNumber u 0
some_or zero d = inr d
some_or (suc x) d = inl (omega arith)

pub sound_bounds : (l : List ℕ) → Sound Bounds l (read_bounds l)
sound_bounds l =
    case_past_sound (byte ",") l
    (λ z r p. bind_sound (sound_number 1 r) (λ v y r' f b. took (byte "," ∷ v) (cc)
    (record { is = upto refl refl b.0; ordered = omega arith; some_or_nought = inl b.1 })))
    (bind_sound (sound_number 0 l) (λ u x r e a.
    case_past_sound (byte ",") r
    (λ z r' p. bind_sound (sound_number (max x 1) r') (λ v y r'' f b.
    took (u ++ (byte "," ∷ v)) (cc (append_assoc u (byte "," ∷ v) r''))
    (record { is = both refl a.0 b.0; ordered = omega (arith, b.1); some_or_nought = inl (omega (arith, b.1)) })))
    (took u e (record { is = same refl a.0; ordered = omega arith; some_or_nought = some_or x a.0 }))))

complete_bounds : {w : List ℕ} {x y : ℕ} → x ≤ y → 1 ≤ y → IsBounds w x y → (r : List ℕ) → read_bounds (w ++ (byte "}" ∷ r)) ≡ got (x, y) (byte "}" ∷ r)
complete_bounds i j (both {w} {u} {v} {x} p a b) r =
    let s = byte "," ∷ (v ++ (byte "}" ∷ r)) in
    rw (
      parted w u (byte "," ∷ v) (byte "}" ∷ r) p,
      number_past a s,
      complete_number 0 (omega arith) a s tt,
      complete_number (max x 1) (omega arith) b (byte "}" ∷ r) tt,
    )
complete_bounds i j (same p a) r = rw (number_past a (byte "}" ∷ r), complete_number 0 (omega arith) a (byte "}" ∷ r) tt, p)
complete_bounds i j (upto p q b) r = rw (p, complete_number 1 j b (byte "}" ∷ r) tt, q)

-- ---- signs
sound_braces : (l : List ℕ) → Sound IsSign (byte "{" ∷ l) (read_braces l)
sound_braces l =
    bind_sound (sound_bounds l) (λ u b r e d.
    cond_sound (leb 1 b.1)
    (λ g. bind_past_sound (byte "}") r (λ z r' p.
    took (byte "{" ∷ (u ++ bytes "}")) (cc (append_assoc u (bytes "}") r')) (braces refl refl d.ordered (leb→le 1 b.1 g) d.is)))
    (λ g. stopped))

pub sound_sign : (l : List ℕ) → Sound IsSign l (read_sign l)
sound_sign [] = took [] refl (absent refl refl)
sound_sign (x ∷ xs) =
    equal_sound x (byte "?") (λ e. took (bytes "?") (cc) (question refl refl))
    (equal_sound x (byte "*") (λ e. took (bytes "*") (cc) (asterisk refl refl))
    (equal_sound x (byte "+") (λ e. took (bytes "+") (cc) (cross refl refl))
    (equal_sound x (byte "{") (λ e. rw e (sound_braces xs))
    (took [] refl (absent refl refl)))))

-- none of the four signs comes next
no_sign : (r : List ℕ) → T (free r) → read_sign r ≡ got (plainly once) r
no_sign [] h = refl
no_sign (x ∷ xs) h = rw (other (byte "?") tt, other (byte "*") tt, other (byte "+") tt, other (byte "{") tt)
  where
    other : (y : ℕ) → T (within y (bytes "?*+{")) → eqb x y ≡ false
    other y k = unequal x y (λ e. T_not (within y (bytes "?*+{")) (subst (λ (z : ℕ). T (not (within z (bytes "?*+{")))) e h) k)

pub complete_sign : {w : List ℕ} {q : Sign} → IsSign w q → (r : List ℕ) → T (free r) → read_sign (w ++ r) ≡ got q r
complete_sign (absent p q) r f = rw (p, q) (no_sign r f)
complete_sign (question p q) r f = rw (p, q)
complete_sign (asterisk p q) r f = rw (p, q)
complete_sign (cross p q) r f = rw (p, q)
complete_sign (braces {w} {u} {y} p q h k b) r f = rw (parted w (byte "{" ∷ u) (bytes "}") r p, complete_bounds h k b r, le_true 1 y k, q)
