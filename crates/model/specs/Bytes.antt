-- BYTES (document 01, "The grammar", second paragraph).
use Rattle.std.specs.Prelude.{◌≡◌, Bool, not, ◌&&◌, ◌||◌, cond, List, [], ◌∷◌, ℕ, ◌+◌, ◌*◌, ◌≤◌, T, leb}
use Prim.Native.Char.{Char, code}
use Prim.Native.String.{String, [] as nothing, ◌∷◌ as ◌followed-by◌}
use Rattle.model.specs.Lists.{within}

-- the byte of a character, and the bytes of a quoted text
abbrev pub byte : Char → ℕ
byte c = code c

abbrev pub bytes : String → List ℕ
bytes nothing = []
bytes (c followed-by s) = byte c ∷ bytes s

-- "The twelve signs are `\ | ( ) [ ] { } ? * + .`."
abbrev pub signs : List ℕ
signs = bytes "\\|()[]{}?*+."

-- "A plain byte is 33 to 126 and no sign."
abbrev pub plain : ℕ → Bool
plain b = leb 33 b && (leb b 126 && not (within b signs))

-- `0` to `9`; these and `A` to `F`, `a` to `f`
abbrev pub digital : ℕ → Bool
digital b = leb (byte "0") b && leb b (byte "9")

abbrev pub hexadecimal : ℕ → Bool
hexadecimal b = digital b || ((leb (byte "A") b && leb b (byte "F")) || (leb (byte "a") b && leb b (byte "f")))

-- "A 256-entry table gives each byte its kind." Digits and hex digits are plain bytes that may also mean a number.
pub data Kind : Type 0 where
  sign_byte digit_byte hex_byte plain_byte other_byte : Kind

abbrev pub kind : ℕ → Kind
kind b = cond (within b signs) sign_byte (cond (digital b) digit_byte (cond (hexadecimal b) hex_byte (cond (plain b) plain_byte other_byte)))

-- the byte x is the digit d
pub data IsDigit : ℕ → ℕ → Type 0 where
  digit : {x d : ℕ} → x ≡ byte "0" + d → d ≤ 9 → IsDigit x d

-- the byte x is the hex digit d, "of either case": `A` is 10 + 55, `a` is 10 + 87
pub data IsHex : ℕ → ℕ → Type 0 where
  decimal : {x d : ℕ} → IsDigit x d → IsHex x d
  upper : {x d : ℕ} → x ≡ 55 + d → 10 ≤ d → d ≤ 15 → IsHex x d
  lower : {x d : ℕ} → x ≡ 87 + d → 10 ≤ d → d ≤ 15 → IsHex x d

-- "An escape is `\` with a sign or `-`, or `\x` with two hex digits of either case."
pub data IsEscape : List ℕ → ℕ → Type 0 where
  sign : {w : List ℕ} {b : ℕ} → w ≡ byte "\\" ∷ b ∷ [] → T (within b (byte "-" ∷ signs)) → IsEscape w b
  number : {w : List ℕ} {b x y h k : ℕ} → w ≡ byte "\\" ∷ byte "x" ∷ x ∷ y ∷ [] → b ≡ 16 * h + k → IsHex x h → IsHex y k → IsEscape w b
