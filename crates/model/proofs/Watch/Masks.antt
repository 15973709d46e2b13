-- A MASK'S WORDS AND ITS STATES: the words of a set have its states and no others, and two masks of one set are equal. Whether words are a mask shows in
-- their number and in the last one.
use mathlib.Core.Path.{◌≡◌, refl, sym, ap, ap₂, ◌∙◌, subst}
use mathlib.Core.Logic.{◌⊎◌, inl, inr, ◌↔◌}
use mathlib.Core.Bool.{Bool, false}
use mathlib.Core.List.{List}
use Prim.Native.Nat.{ℕ, ◌+◌, ◌-◌, ◌*◌, ◌/◌, ◌%◌, ◌^◌, ◌≤◌, ◌<◌}
use native.Mathlib.Omega.{arith}
use lib.Dec.{T, eqb, eqb→eq, eqb_refl}
use lib.ListN.{get_or-eq_default, get_or, length}
use lib.Pow.{shr_le, shr-shr}
use Rattle.model.specs.Bits.{bit}
use Rattle.model.specs.Image.{row, width}
use Rattle.model.specs.Models.Words.{Fit, is_mask, value}
use Rattle.model.proofs.Image.Rows.{room, set_same}
use Rattle.model.proofs.Image.SameBits.{holds_one}
use Rattle.model.proofs.Laws.Bits.{bit_zero, no_bit}
use Rattle.model.proofs.Laws.Bool.{and_both, and_split, is_not, le_or_lt, same_truth}
use Rattle.model.proofs.Words.Bits.{bit_ext, bit_high}
use Rattle.model.proofs.Words.Holds.{Holds, set_holds}
use Rattle.model.proofs.Words.Put.{fit_at}
use Rattle.model.proofs.Words.RowBits.{row_bit, shifted}
use Rattle.model.specs.Watch.{In, IsMask, MaskOf}

-- ---- the states of a mask by the number that its words make
pub in_value : (mask : List ℕ) → Fit mask → (q : ℕ) → In mask q ↔ T (bit (value mask) q)
in_value mask F q = (subst T (sym (row_bit mask q F)), subst T (row_bit mask q F))

-- ---- the words of a set
module _ (m : ℕ) (f : ℕ → Bool) where
  held : Holds m (width m) (row m f) f
  held = set_holds m (width m) f (room m)

  row_in : (q : ℕ) → q < m → In (row m f) q ↔ T (f q)
  row_in q l =
      let v = in_value (row m f) held.near.fit q in
      let e = held.near.bits q l in
      (λ h. subst T e (v.0 h), λ h. v.1 (subst T (sym e) h))

  row_past : (q : ℕ) → m ≤ q → In (row m f) q → ⊥
  row_past q l h = subst T (held.none q l) ((in_value (row m f) held.near.fit q).0 h)

module _ {m : ℕ} {D : ℕ → Type 0} {mask : List ℕ} (M : MaskOf m D mask) where
  -- THE WORDS OF A SET ARE A MASK
  pub mask_is : IsMask m mask
  mask_is = record {
    long = ap length M.laid ∙ (held m M.set).near.len;
    none_past = λ q l h. row_past m M.set q l (subst (λ (w : List ℕ). In w q) M.laid h);
  }

  -- with the states of D, where those lie below m
  pub mask_in : ((q : ℕ) → D q → q < m) → (q : ℕ) → In mask q ↔ D q
  mask_in below q = (λ h. there (le_or_lt m q) (subst (λ (w : List ℕ). In w q) M.laid h), back)
    where
      there : (m ≤ q) ⊎ (q < m) → In (row m M.set) q → D q
      there (inl l) h = absurd (row_past m M.set q l h)
      there (inr l) h = (M.is q l).0 ((row_in m M.set q l).0 h)

      back : D q → In mask q
      back h = subst (λ (w : List ℕ). In w q) (sym M.laid) ((row_in m M.set q (below q h)).1 ((M.is q (below q h)).1 h))

-- TWO MASKS OF ONE SET ARE EQUAL
pub mask_one : {m : ℕ} {D : ℕ → Type 0} {a b : List ℕ} → MaskOf m D a → MaskOf m D b → a ≡ b
mask_one {m} A B =
    A.laid ∙ set_same m (width m) A.set B.set (λ q l. same_truth (A.set q) (B.set q) (λ h. (B.is q l).1 ((A.is q l).0 h)) (λ h. (A.is q l).1 ((B.is q l).0 h)))
    ∙ sym B.laid

-- the same states, the same mask
pub mask_as : {m : ℕ} {D E : ℕ → Type 0} {mask : List ℕ} → ((q : ℕ) → D q ↔ E q) → MaskOf m D mask → MaskOf m E mask
mask_as e M = record { set = M.set; is = λ q l. (λ h. (e q).0 ((M.is q l).0 h), λ h. (M.is q l).1 ((e q).1 h)); laid = M.laid }

-- ---- a row that holds a set is its mask
pub holds_mask : (m : ℕ) (xs : List ℕ) (f : ℕ → Bool) → Holds m (width m) xs f → xs ≡ row m f
holds_mask m xs f H = holds_one m (width m) xs (row m f) f f H (held m f) (λ x l. refl)

-- ---- THE TEST OF A MASK
module _ (m : ℕ) (some : 1 ≤ m) (mask : List ℕ) (F : Fit mask) where
  abbrev top : ℕ
  top = (m - 1) / 64

  abbrev k : ℕ
  k = (m - 1) % 64

  abbrev word : ℕ
  word = get_or mask top 0

  abbrev high : ℕ
  high = word / 2 ^ (k + 1)

  wide : width m ≡ top + 1
  wide = omega (arith, some)

  none_above : length mask ≡ top + 1 → high ≡ 0 → IsMask m mask
  none_above long e = record { long = long ∙ sym wide; none_past = λ q l h. go q l h (le_or_lt (top + 1) (q / 64)) }
    where
      go : (q : ℕ) → m ≤ q → In mask q → (top + 1 ≤ q / 64) ⊎ (q / 64 < top + 1) → ⊥
      go q l h (inl z) = no_bit (q % 64) (subst (λ (n : ℕ). T (bit n (q % 64))) (get_or-eq_default mask 0 (omega (arith, long))) h)
      go q l h (inr z) =
          let same : q / 64 ≡ top = omega (arith, some) in
          let j = q % 64 - (k + 1) in
          let at : q % 64 ≡ k + 1 + j = omega (arith, some, same) in
          no_bit j (subst T (ap₂ (λ (a b : ℕ). bit (get_or mask a 0) b) same at ∙ sym (shifted word (k + 1) j) ∙ ap (λ (n : ℕ). bit n j) e) h)

  nothing_above : IsMask m mask → high ≡ 0
  nothing_above M =
      bit_ext 64 high 0 (omega (arith, shr_le word (k + 1), fit_at mask top F)) (omega arith)
      (λ i l. shifted word (k + 1) i ∙ go i (le_or_lt 64 (k + 1 + i)) ∙ sym (bit_zero i))
    where
      go : (i : ℕ) → (64 ≤ k + 1 + i) ⊎ (k + 1 + i < 64) → bit word (k + 1 + i) ≡ false
      go i (inl z) = bit_high 64 word (k + 1 + i) (fit_at mask top F) z
      go i (inr z) =
          let q = 64 * top + (k + 1 + i) in
          let a : q / 64 ≡ top = omega arith in
          let b : q % 64 ≡ k + 1 + i = omega arith in
          is_not (bit word (k + 1 + i)) (λ h. M.none_past q (omega (arith, some)) (subst T (sym (ap₂ (λ (x y : ℕ). bit (get_or mask x 0) y) a b)) h))

  pub mask_test : T (is_mask m mask) ↔ IsMask m mask
  mask_test = (there, back)
    where
      last_word : word / 2 ^ k / 2 ≡ high
      last_word = shr-shr word k 1

      there : T (is_mask m mask) → IsMask m mask
      there h =
          let s = and_split (eqb (length mask) (top + 1)) (eqb (word / 2 ^ k / 2) 0) h in
          none_above (eqb→eq (length mask) (top + 1) s.0) (sym last_word ∙ eqb→eq (word / 2 ^ k / 2) 0 s.1)

      back : IsMask m mask → T (is_mask m mask)
      back M =
          and_both (eqb (length mask) (top + 1)) (eqb (word / 2 ^ k / 2) 0)
          (subst (λ (n : ℕ). T (eqb n (top + 1))) (sym (M.long ∙ wide)) (eqb_refl (top + 1))) (subst (λ (n : ℕ). T (eqb n 0)) (sym (last_word ∙ nothing_above M)) (eqb_refl 0))
