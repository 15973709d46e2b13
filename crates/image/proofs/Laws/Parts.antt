-- A SECTION WRITTEN PART BY PART: parts of w words stand one after another, so part k goes w * k words after the first, and n parts are w * n words.
use mathlib.Core.Path.{◌≡◌, refl, sym, ap, ◌∙◌}
use mathlib.Core.List.{List, ◌++◌, append_assoc, append-nil}
use Prim.Native.Nat.{ℕ, zero, suc, ◌+◌, ◌-◌, ◌*◌, ◌≤◌, ◌<◌}
use native.Mathlib.Nat.{add-zero, le_of_lt, le_refl, mul-suc, mul-zero, zero-add}
use native.Mathlib.Numerals.{add-one}
use native.Mathlib.Omega.{arith}
use lib.ListN.{length, set, length-append}
use lib.Seq.{sets}
use Rattle.model.specs.Image.{join, section}
use Rattle.image.proofs.Laws.Stores.{sets_on}

pub join_snoc : (n a : ℕ) (f : ℕ → List ℕ) → join (suc n) a f ≡ join n a f ++ f (a + n)
join_snoc zero a f = append-nil (f a) ∙ ap f (sym (add-zero a))
join_snoc (suc n) a f =
    ap (λ (ws : List ℕ). f a ++ ws) (join_snoc n (suc a) f)
    ∙ sym (append_assoc (f a) (join n (suc a) f) (f (suc a + n)))
    ∙ (let e : suc a + n ≡ a + suc n = omega arith in ap (λ (k : ℕ). join (suc n) a f ++ f k) e)

-- the first n of the parts have w words each
abbrev pub AllLong : ℕ → ℕ → (ℕ → List ℕ) → Type 0
AllLong w n f = (k : ℕ) → k < n → length (f k) ≡ w

module _ (w n : ℕ) (f : ℕ → List ℕ) (same : AllLong w n f) where
  length_first : (k : ℕ) → k ≤ n → length (join k 0 f) ≡ w * k
  length_first zero h = sym (mul-zero w)
  length_first (suc k) h =
      ap length (join_snoc k 0 f)
      ∙ length-append (join k 0 f) (f (0 + k))
      ∙ (let e : length (f (0 + k)) ≡ w = ap (λ (j : ℕ). length (f j)) (zero-add k) ∙ same k h in
      omega (arith, e, length_first k (le_of_lt h), mul-suc w k))

  pub length_joined : length (join n 0 f) ≡ w * n
  length_joined = length_first n (le_refl n)

  pub length_section : length (section (join n 0 f)) ≡ 1 + w * n
  length_section = omega (arith, length_joined)

  -- part k is written where the first k end
  part_more : (l : List ℕ) (i k : ℕ) → k < n → sets (sets l i (join k 0 f)) (i + w * k) (f k) ≡ sets l i (join (k + 1) 0 f)
  part_more l i k h =
      sets_on l i (join k 0 f) (f k) (i + w * k) (ap (λ (j : ℕ). i + j) (sym (length_first k (le_of_lt h))))
      ∙ ap (sets l i) (ap (λ (j : ℕ). join k 0 f ++ f j) (sym (zero-add k)) ∙ sym (join_snoc k 0 f) ∙ ap (λ (j : ℕ). join j 0 f) (sym (add-one k)))

-- of n parts of w words the first k are written to l, from place i on
pub record Parts (w n : ℕ) (f : ℕ → List ℕ) (l : List ℕ) (i : ℕ) (words : List ℕ) (k : ℕ) : Type 0 where
  pub same : AllLong w n f
  pub are : words ≡ sets l i (join k 0 f)

pub parts_none : {w n : ℕ} {f : ℕ → List ℕ} {l : List ℕ} {i : ℕ} → AllLong w n f → Parts w n f l i l 0
parts_none same = record { same = same; are = refl }

module _ {w n : ℕ} {f : ℕ → List ℕ} {l : List ℕ} {i : ℕ} {words : List ℕ} {k : ℕ} (P : Parts w n f l i words k) where
  pub parts_more : {after : List ℕ} → k < n → after ≡ sets words (i + w * k) (f k) → Parts w n f l i after (k + 1)
  parts_more h e = record {
    same = P.same;
    are = e ∙ ap (λ (ws : List ℕ). sets ws (i + w * k) (f k)) P.are ∙ part_more w n f P.same l i k h;
  }

-- the same from place i on, after the count c of their words
module _ (l : List ℕ) (i c : ℕ) {w n : ℕ} {f : ℕ → List ℕ} {words : List ℕ} {k : ℕ} (P : Parts w n f (set l (i - 1) c) i words k) where
  pub parts_all : 1 ≤ i → c ≡ w * n → k ≡ n → words ≡ sets l (i - 1) (section (join n 0 f))
  parts_all some e q =
      let next : i ≡ suc (i - 1) = omega arith in
      P.are
      ∙ ap (λ (j : ℕ). sets (set l (i - 1) c) i (join j 0 f)) q
      ∙ ap (λ (p : ℕ). sets (set l (i - 1) c) p (join n 0 f)) next
      ∙ ap (λ (d : ℕ). sets (set l (i - 1) d) (suc (i - 1)) (join n 0 f)) (e ∙ sym (length_joined w n f P.same))
