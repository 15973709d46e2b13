-- HOW THE TABLE OF A COLUMN IS FILLED: each bit that is put into it is the lowest of those left of a word, so what is there and what is left stay the same
-- together; and the bytes gone over so far are there for the states that their words have.
use mathlib.Core.Path.{◌≡◌, refl, sym, ap, ap₂, ◌∙◌, subst}
use mathlib.Core.Logic.{◌⊎◌, inl, inr}
use mathlib.Core.Bool.{Bool, true, false, not, ◌&&◌, ◌||◌, and-false, or-false}
use mathlib.Core.List.{List}
use Prim.Native.Nat.{ℕ, zero, suc, ◌+◌, ◌-◌, ◌*◌, ◌/◌, ◌%◌, ◌^◌, ◌≤◌, ◌<◌}
use native.Mathlib.Nat.{eq-or-lt_of_le}
use native.Mathlib.Omega.{arith}
use borrow.Author.Tests.{eq-eqb, le-ltb, lt-ltb, ne_eqb}
use lib.Bits.{bit_and, bit_or}
use lib.Count.{count_trailing_zeros}
use lib.Dec.{T, eqb, ltb, eqb→eq}
use lib.ListN.{drop, get_or, length, length-replicate, replicate, set}
use lib.Pow.{pow-lt}
use lib.Seq.{get_or-drop, get_or-take}
use Rattle.model.specs.Bits.{bit}
use Rattle.model.specs.Models.Sections.{bit_of, chunk, letters_at, letters_in}
use Rattle.model.specs.Models.Words.{Fit, put_bit}
use Rattle.model.proofs.Image.SameBits.{fit_drop, fit_take}
use Rattle.model.proofs.Laws.Bits.{bit_zero}
use Rattle.model.proofs.Laws.Bool.{le_or_lt}
use Rattle.model.proofs.Words.Bits.{bit_ext, bit_mask, mask_lt}
use Rattle.model.proofs.Words.Holds.{val_below}
use Rattle.model.proofs.Words.Lowest.{Lowest, lowest_bit, without, without_bit, without_less}
use Rattle.model.proofs.Words.Put.{fit_at, put-bit, put_fit, put_length}
use Rattle.model.proofs.Words.RowBits.{row_bit}
use Rattle.mask.proofs.Laws.Bits.{none_bit, none_fit, one_shifted}
use Rattle.image_classes.specs.Classes.{class_in, class_to, ColumnOf, four_of, has, Table, With}

-- ---- a byte put in for one state
abbrev place_of : (k byte : ℕ) → ℕ
place_of k byte = 256 * k + byte

-- as the code puts it: in word byte / 64 of the state's four
abbrev put_in : List ℕ → (k byte : ℕ) → List ℕ
put_in table k byte = let i = 4 * k + byte / 64 in set table i (bit_or (get_or table i 0) (1 * 2 ^ (byte % 64) % 2 ^ 64))

put-in : (table : List ℕ) (k byte : ℕ) → put_in table k byte ≡ put_bit table (place_of k byte)
put-in table k byte =
    let i = 4 * k + byte / 64 in
    let w : 4 * k + byte / 64 ≡ place_of k byte / 64 = omega arith in
    let r : byte % 64 ≡ place_of k byte % 64 = omega arith in
    ap (λ (n : ℕ). set table i (bit_or (get_or table i 0) n)) (one_shifted byte) ∙ ap₂ (λ (i j : ℕ). set table i (bit_or (get_or table i 0) (2 ^ j))) w r

-- ---- WHAT IS THERE AND WHAT IS LEFT OF A WORD make what shall be there
pub record Left (before : List ℕ) (byte word : ℕ) (table : List ℕ) (rest : ℕ) : Type 0 where
  pub fits : rest < 2 ^ 64
  pub is_table : Table table
  pub together : (k b : ℕ) → b < 256 → (has table k b || (eqb b byte && bit rest k)) ≡ (has before k b || (eqb b byte && bit word k))

pub left_all : {before : List ℕ} (byte word : ℕ) → word < 2 ^ 64 → Table before → Left before byte word before word
left_all byte word f L = record { fits = f; is_table = L; together = λ k b s. refl }

-- a bit that is at this place is one of those left, and of those left one is at this place only if it is this bit
over : (h here same left this : Bool) → (T here → T same × T left) → (T same → T this → T here)
    → ((h || here) || (same && (left && not this))) ≡ (h || (same && left))
over true e v r u f g = refl
over false true true true u f g = refl
over false true false r u f g = absurd (f tt).0
over false true true false u f g = absurd (f tt).1
over false false false r u f g = refl
over false false true false u f g = refl
over false false true true false f g = refl
over false false true true true f g = absurd (g tt tt)

-- the lowest bit goes over to the table
module _ (before : List ℕ) (byte word : ℕ) (small : byte < 256) {table : List ℕ} {rest : ℕ} (A : Left before byte word table rest) (some : rest ≡ 0 → ⊥) where
  abbrev first : ℕ
  first = count_trailing_zeros 64 rest

  lowest : (first < 64) × Lowest rest first
  lowest = lowest_bit 64 rest (omega (arith, some)) A.fits

  inside : first < 64
  inside = lowest.0

  less : without rest first < rest
  less = without_less rest first A.fits inside lowest.1.here

  -- the rest, as the code has it
  abbrev cleared : ℕ
  cleared = bit_and rest (2 ^ 64 - 1 - 1 * 2 ^ first % 2 ^ 64)

  is_cleared : cleared ≡ without rest first
  is_cleared =
      let p : 2 ^ first < 2 ^ 64 = pow-lt inside in
      let e : 1 * 2 ^ first % 2 ^ 64 ≡ 2 ^ first = omega arith in
      ap (λ (n : ℕ). bit_and rest (2 ^ 64 - 1 - n)) e

  pub left_less : cleared < rest
  left_less = subst (λ (n : ℕ). n < rest) (sym is_cleared) less

  pub left_next : Left before byte word (put_in table first byte) cleared
  left_next = subst (λ (t : List ℕ). Left before byte word t cleared) (sym (put-in table first byte))
      (subst (Left before byte word (put_bit table here)) (sym is_cleared) moved)
    where
      here : ℕ
      here = place_of first byte

      is_equal : (m n : ℕ) → m ≡ n → T (eqb m n)
      is_equal m n e = subst T (sym (eq-eqb m n e)) tt

      in_place : (k b : ℕ) → b < 256 → T (eqb (place_of k b) here) → T (eqb b byte) × T (bit rest k)
      in_place k b s t =
          let e = eqb→eq (place_of k b) here t in
          let x : b ≡ byte = omega arith in
          let z : k ≡ first = omega arith in
          (is_equal b byte x, subst T (sym (ap (bit rest) z ∙ lowest.1.here)) tt)

      one : (k b : ℕ) → T (eqb b byte) → T (eqb k first) → T (eqb (place_of k b) here)
      one k b x z = is_equal (place_of k b) here (omega (arith, eqb→eq b byte x, eqb→eq k first z))

      moved : Left before byte word (put_bit table here) (without rest first)
      moved = record {
        fits = omega (arith, less, A.fits);
        is_table = record { long = put_length table here ∙ A.is_table.long; fit = put_fit table here A.is_table.fit };
        together = λ k b s.
            ap₂ (λ (t w : Bool). t || (eqb b byte && w))
            (put-bit table here (place_of k b) (omega (arith, A.is_table.long, inside)) A.is_table.fit) (without_bit rest first A.fits inside k)
            ∙ over (has table k b) (eqb (place_of k b) here) (eqb b byte) (bit rest k) (eqb k first) (in_place k b s) (one k b)
            ∙ A.together k b s;
      }

pub left_none : {before table : List ℕ} {byte word rest : ℕ} → rest ≡ 0 → Left before byte word table rest → With before byte word table
left_none {before} {table} {byte} {word} {rest} e A = record { table = A.is_table; bytes = λ k b s. sym (gone k b) ∙ A.together k b s }
  where
    gone : (k b : ℕ) → (has table k b || (eqb b byte && bit rest k)) ≡ has table k b
    gone k b = rw (e, bit_zero k, and-false (eqb b byte), or-false (has table k b))

-- ---- THE BYTES, one after another: those below `byte`, for the states that their words have; the words are W apart
pub record Upto (ws : List ℕ) (first W byte : ℕ) (table : List ℕ) : Type 0 where
  pub is_table : Table table
  pub bytes : (k b : ℕ) → b < 256 → has table k b ≡ (ltb b byte && bit (get_or ws (first + W * b) 0) k)

pub upto_none : {table : List ℕ} (ws : List ℕ) (first W : ℕ) → table ≡ replicate 256 0 → Upto ws first W 0 table
upto_none {table} ws first W e = record {
  is_table = record { long = ap length e ∙ length-replicate {A = ℕ} 256 0; fit = subst Fit (sym e) (none_fit 256) };
  bytes = λ k b s. ap (λ (t : List ℕ). has t k b) e ∙ none_bit 256 (256 * k + b) ∙ sym (rw (le-ltb b 0 (omega arith)));
}

pub upto_next : {table after : List ℕ} (ws : List ℕ) (first W byte : ℕ) → Upto ws first W byte table → With table byte (get_or ws (first + W * byte) 0) after
    → Upto ws first W (suc byte) after
upto_next ws first W byte A B = record {
  is_table = B.table;
  bytes = λ k b s. B.bytes k b s ∙ ap (λ (t : Bool). t || (eqb b byte && in_word k byte)) (A.bytes k b s) ∙ go k b (le_or_lt byte b);
}
  where
    in_word : ℕ → ℕ → Bool
    in_word k b = bit (get_or ws (first + W * b) 0) k

    at_least : (k b : ℕ) → (byte ≡ b) ⊎ (byte < b) → ((ltb b byte && in_word k b) || (eqb b byte && in_word k byte)) ≡ (ltb b (suc byte) && in_word k b)
    at_least k b (inl e) = rw (← e, le-ltb byte byte (omega arith), lt-ltb byte (suc byte) (omega arith), eq-eqb byte byte refl)
    at_least k b (inr l) = rw (le-ltb b byte (omega arith), le-ltb b (suc byte) (omega arith), ne_eqb b byte (λ e. omega arith))

    go : (k b : ℕ) → (byte ≤ b) ⊎ (b < byte) → ((ltb b byte && in_word k b) || (eqb b byte && in_word k byte)) ≡ (ltb b (suc byte) && in_word k b)
    go k b (inl h) = at_least k b (eq-or-lt_of_le h)
    go k b (inr l) = rw (lt-ltb b byte l, lt-ltb b (suc byte) (omega arith), ne_eqb b byte (λ e. omega arith), or-false (in_word k b))

-- ---- AND SO THE CLASSES: the four words of a state have its bytes
module _ {table : List ℕ} (L : Table table) (k : ℕ) where
  fit : Fit (four_of table k)
  fit = (at (4 * k), (at (4 * k + 1), (at (4 * k + 2), (at (4 * k + 3), tt))))
    where
      at : (i : ℕ) → get_or table i 0 < 2 ^ 64
      at i = fit_at table i L.fit

  word_in : (n : ℕ) → n < 4 → get_or (four_of table k) n 0 ≡ get_or table (4 * k + n) 0
  word_in zero h = let e : 4 * k ≡ 4 * k + 0 = omega arith in ap (λ (i : ℕ). get_or table i 0) e
  word_in (suc zero) h = refl
  word_in (suc (suc zero)) h = refl
  word_in (suc (suc (suc zero))) h = refl
  word_in (suc (suc (suc (suc n)))) h = absurd (omega arith)

  in_four : (b : ℕ) → b < 256 → bit (class_in table k) b ≡ has table k b
  in_four b s =
      let w : 4 * k + b / 64 ≡ place_of k b / 64 = omega arith in
      let r : b % 64 ≡ place_of k b % 64 = omega arith in
      row_bit (four_of table k) b fit
      ∙ ap (λ (w : ℕ). bit w (b % 64)) (word_in (b / 64) (omega arith))
      ∙ ap₂ (λ (i j : ℕ). bit (get_or table i 0) j) w r
      ∙ sym (row_bit table (place_of k b) L.fit)

module _ (ws : List ℕ) (fits : Fit ws) (W column : ℕ) (near : column < W) where
  -- a mask's bit is where its word and its bit say
  leads : (b k : ℕ) → k < 64 → bit (get_or ws (letters_at + column + W * b) 0) k ≡ bit_of W (letters_in ws) b (64 * column + k)
  leads b k h =
      let rest = drop (W * b) (letters_in ws) in
      let q : column ≡ (64 * column + k) / 64 = omega arith in
      let r : k ≡ (64 * column + k) % 64 = omega arith in
      let e : letters_at + column + W * b ≡ letters_at + (W * b + column) = omega arith in
      ap (λ (w : ℕ). bit w k)
      (ap (λ (i : ℕ). get_or ws i 0) e
      ∙ sym (get_or-drop letters_at ws (W * b + column) 0)
      ∙ sym (get_or-drop (W * b) (letters_in ws) column 0)
      ∙ sym (get_or-take W rest column 0 near))
      ∙ ap₂ (λ (i j : ℕ). bit (get_or (chunk W b (letters_in ws)) i 0) j) q r
      ∙ sym (row_bit (chunk W b (letters_in ws)) (64 * column + k) (fit_take W rest (fit_drop (W * b) (letters_in ws) (fit_drop letters_at ws fits))))

  pub all_bytes : {table : List ℕ} {letters : ℕ} → letters ≡ letters_at → Upto ws (letters + column) W 256 table → ColumnOf ws W column table
  all_bytes {table} {letters} e A k h =
      bit_ext 256 (class_in table k) (class_to ws W (64 * column + k)) (val_below 4 (four_of table k) refl (fit A.is_table k))
      (mask_lt 256 (λ b. bit_of W (letters_in ws) b (64 * column + k))) (λ b s.
      in_four A.is_table k b s
      ∙ A.bytes k b s
      ∙ ap₂ (λ (t : Bool) (i : ℕ). t && bit (get_or ws (i + column + W * b) 0) k) (lt-ltb b 256 s) e
      ∙ leads b k h
      ∙ sym (bit_mask 256 b (λ b. bit_of W (letters_in ws) b (64 * column + k)) s))
