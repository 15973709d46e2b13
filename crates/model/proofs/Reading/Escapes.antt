-- Digits, hex digits and escapes: the readers and the grammar agree, by what each byte's kind says of its number.
use mathlib.Core.Path.{◌≡◌, refl}
use mathlib.Core.Logic.{◌⊎◌, inl, inr, ◌↔◌}
use mathlib.Core.Bool.{Bool, false, ◌&&◌, ◌||◌}
use mathlib.Core.List.{List, [], ◌∷◌, ◌++◌}
use Prim.Native.Nat.{ℕ, ◌+◌, ◌-◌, ◌*◌, ◌≤◌, ◌<◌}
use native.Mathlib.Omega.{arith}
use lib.Dec.{T, leb, leb→le, le→leb}
use Rattle.model.specs.Lists.{within}
use Rattle.model.specs.Bytes.{byte, decimal, digit, digital, hexadecimal, IsDigit, IsEscape, IsHex, lower, number, sign, signs, upper}
use Rattle.model.specs.Models.Places.{Least}
use Rattle.model.specs.Models.Reader.{got, hex_value, read_escape, read_hex, read_hexes}
use Rattle.model.proofs.Laws.Bool.{and_both, and_split, is_true, le_false, le_true, or_left, or_right, or_split}
use Rattle.model.proofs.Reading.Answers.{cond_sound, equal_sound, Sound, stopped, took}

-- a byte from lo to hi
between : (lo hi x : ℕ) → T (leb lo x && leb x hi) ↔ ((lo ≤ x) × (x ≤ hi))
between lo hi x = (
  λ h. let k = and_split (leb lo x) (leb x hi) h in (leb→le lo x k.0, leb→le x hi k.1),
  λ h. and_both (leb lo x) (leb x hi) (le→leb lo x h.0) (le→leb x hi h.1),
)

-- ---- digits
pub digit_of : (x : ℕ) → T (digital x) → IsDigit x (x - byte "0")
digit_of x h = let k = (between (byte "0") (byte "9") x).0 h in digit {x = x} {d = x - byte "0"} (omega arith) (omega arith)

pub digital_of : {x d : ℕ} → IsDigit x d → T (digital x)
digital_of (digit {x} p h) = (between (byte "0") (byte "9") x).1 (omega arith)

pub digit_value : {x d : ℕ} → IsDigit x d → x - byte "0" ≡ d
digit_value (digit p h) = omega arith

not_digital : (x : ℕ) → byte "9" < x → digital x ≡ false
not_digital x h = rw (le_true (byte "0") x (omega arith), le_false x (byte "9") h)

-- ---- hex digits
-- `A` to `F`, and `a` to `f`
abbrev capital : ℕ → Bool
capital x = leb (byte "A") x && leb x (byte "F")

abbrev small : ℕ → Bool
small x = leb (byte "a") x && leb x (byte "f")

pub hex_of : (x : ℕ) → T (hexadecimal x) → IsHex x (hex_value x)
hex_of x h = go (or_split (digital x) (capital x || small x) h)
  where
    letter : T (capital x) ⊎ T (small x) → IsHex x (hex_value x)
    letter (inl k) =
        let m = (between (byte "A") (byte "F") x).0 k in
        rw (not_digital x (omega arith), le_true x (byte "F") (omega arith)) (upper {x = x} {d = x - 55} (omega arith) (omega arith) (omega arith))
    letter (inr k) =
        let m = (between (byte "a") (byte "f") x).0 k in
        rw (not_digital x (omega arith), le_false x (byte "F") (omega arith)) (lower {x = x} {d = x - 87} (omega arith) (omega arith) (omega arith))

    go : T (digital x) ⊎ T (capital x || small x) → IsHex x (hex_value x)
    go (inl k) = rw (is_true (digital x) k) (decimal (digit_of x k))
    go (inr k) = letter (or_split (capital x) (small x) k)

hexadecimal_of : {x d : ℕ} → IsHex x d → T (hexadecimal x)
hexadecimal_of (decimal {x} k) = or_left (digital x) (capital x || small x) (digital_of k)
hexadecimal_of (upper {x} p h k) =
    or_right (digital x) (capital x || small x) (or_left (capital x) (small x) ((between (byte "A") (byte "F") x).1 (omega arith)))
hexadecimal_of (lower {x} p h k) =
    or_right (digital x) (capital x || small x) (or_right (capital x) (small x) ((between (byte "a") (byte "f") x).1 (omega arith)))

hex-value : {x d : ℕ} → IsHex x d → hex_value x ≡ d
hex-value (decimal {x} k) = rw (is_true (digital x) (digital_of k)) (digit_value k)
hex-value (upper {x} p h k) = rw (not_digital x (omega arith), le_true x (byte "F") (omega arith)) (omega arith)
hex-value (lower {x} p h k) = rw (not_digital x (omega arith), le_false x (byte "F") (omega arith)) (omega arith)

pub hex_small : {x d : ℕ} → IsHex x d → d ≤ 15
hex_small (decimal (digit p h)) = omega arith
hex_small (upper p h k) = k
hex_small (lower p h k) = k

-- ---- escapes
sound_hex : (lo x : ℕ) → IsHex x (hex_value x) → (l : List ℕ) → Sound (Least lo IsEscape) (byte "\\" ∷ byte "x" ∷ x ∷ l) (read_hex lo (hex_value x) l)
sound_hex lo x d [] = stopped
sound_hex lo x d (y ∷ ys) =
    cond_sound (hexadecimal y && leb lo (16 * hex_value x + hex_value y))
    (λ h. let k = and_split (hexadecimal y) (leb lo (16 * hex_value x + hex_value y)) h in
    took (byte "\\" ∷ byte "x" ∷ x ∷ y ∷ []) refl (number refl refl d (hex_of y k.0), leb→le lo (16 * hex_value x + hex_value y) k.1))
    (λ h. stopped)

sound_hexes : (lo : ℕ) (l : List ℕ) → Sound (Least lo IsEscape) (byte "\\" ∷ byte "x" ∷ l) (read_hexes lo l)
sound_hexes lo [] = stopped
sound_hexes lo (x ∷ xs) =
    cond_sound (hexadecimal x && leb lo (16 * hex_value x + 15))
    (λ h. sound_hex lo x (hex_of x (and_split (hexadecimal x) (leb lo (16 * hex_value x + 15)) h).0) xs)
    (λ h. stopped)

-- what is read after `\` is, with it, an escape
pub sound_escape : (lo : ℕ) (l : List ℕ) → Sound (Least lo IsEscape) (byte "\\" ∷ l) (read_escape lo l)
sound_escape lo [] = stopped
sound_escape lo (x ∷ xs) =
    cond_sound (within x (byte "-" ∷ signs))
    (λ h. cond_sound (leb lo x) (λ k. took (byte "\\" ∷ x ∷ []) refl (sign refl h, leb→le lo x k)) (λ k. stopped))
    (λ g. equal_sound x (byte "x") (λ e. rw e (sound_hexes lo xs)) stopped)

-- every escape begins with `\`
abbrev pub escape_tail : {w : List ℕ} {b : ℕ} → IsEscape w b → (m : List ℕ) × (w ≡ byte "\\" ∷ m)
escape_tail (sign {b} p h) = (b ∷ [], p)
escape_tail (number {x} {y} p q h k) = (byte "x" ∷ x ∷ y ∷ [], p)

-- and what comes after that is read
pub complete_escape : {w : List ℕ} {b : ℕ} (lo : ℕ) → lo ≤ b → (d : IsEscape w b) (r : List ℕ) → read_escape lo ((escape_tail d).0 ++ r) ≡ got b r
complete_escape lo g (sign {b} p h) r = rw (is_true (within b (byte "-" ∷ signs)) h, le_true lo b g)
complete_escape lo g (number {b} {x} {y} {h = i} {k = j} p q h k) r =
    let s = hex_small k in
    rw (
      is_true (hexadecimal x) (hexadecimal_of h),
      hex-value h,
      le_true lo (16 * i + 15) (omega arith),
      is_true (hexadecimal y) (hexadecimal_of k),
      hex-value k,
      le_true lo (16 * i + j) (omega arith),
      q,
    )
