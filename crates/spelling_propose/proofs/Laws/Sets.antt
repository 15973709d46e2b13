-- ROWS AS SETS: what putting a bit and joining two rows do to their states, and the lowest of them, for rows of eight words.
use mathlib.Core.Path.{◌≡◌, refl, sym, ap, ap₂, ◌∙◌, subst}
use mathlib.Core.Logic.{◌⊎◌, inl, inr, ◌↔◌}
use mathlib.Core.Bool.{◌&&◌, ◌||◌}
use mathlib.Core.List.{List}
use Prim.Native.Nat.{ℕ, suc, ◌+◌, ◌*◌, ◌/◌, ◌%◌, ◌<◌}
use native.Mathlib.Nat.{le_refl}
use native.Mathlib.Omega.{arith}
use lib.Count.{count_trailing_zeros}
use lib.Dec.{T, eqb, eqb→eq, eqb_refl}
use lib.ListN.{get_or, length, take}
use lib.Seq.{take_all}
use Rattle.model.specs.Bits.{bit}
use Rattle.model.specs.Models.Words.{and_words, Fit, or_words, put_bit, value}
use Rattle.model.proofs.Laws.Bits.{no_bit}
use Rattle.model.proofs.Laws.Bool.{and_both, and_split, or_left, or_right, or_split}
use Rattle.model.proofs.Words.Holds.{Near}
use Rattle.model.proofs.Words.Operations.{near_and, near_or}
use Rattle.model.proofs.Words.Lowest.{lowest_bit}
use Rattle.model.proofs.Words.Put.{fit_at, put-bit}
use Rattle.model.proofs.Words.RowBits.{row_bit}
use Rattle.run_edges.proofs.Laws.Sets.{bit_below}
use Rattle.spelling_propose.specs.Work.{EitherSays, Has, LowestSays, WithSays}

pub with_says : (row r : List ℕ) (q : ℕ) → q < 512 → length row ≡ 8 → Fit row → r ≡ put_bit row q → WithSays row q r
with_says row r q l long fit e x = (there, back)
  where
    is : bit (value r) x ≡ (bit (value row) x || eqb x q)
    is = ap (λ (w : List ℕ). bit (value w) x) e ∙ put-bit row q x (omega arith) fit

    there : Has r x → Has row x ⊎ (x ≡ q)
    there h = elim (or_split (bit (value row) x) (eqb x q) (subst T is h)) [
      | inl k ↦ inl k
      | inr k ↦ inr (eqb→eq x q k)
    ]

    back : Has row x ⊎ (x ≡ q) → Has r x
    back (inl k) = subst T (sym is) (or_left (bit (value row) x) (eqb x q) k)
    back (inr k) = subst T (sym is) (or_right (bit (value row) x) (eqb x q) (subst (λ (y : ℕ). T (eqb x y)) k (eqb_refl x)))

module _ (a b r : List ℕ) (la : length a ≡ 8) (lb : length b ≡ 8) (lr : length r ≡ 8) (fa : Fit a) (fb : Fit b) where
  -- a row's bits, up to one that is asked for
  self : (x : ℕ) (w : List ℕ) → length w ≡ 8 → Fit w → Near (suc x) 8 w (λ y. bit (value w) y)
  self x w l f = record { len = l; fit = f; bits = λ y k. refl }

  pub either_says : take 8 r ≡ or_words (take 8 a) (take 8 b) → EitherSays a b r
  either_says e x = (
    λ h. or_split (bit (value a) x) (bit (value b) x) (subst T is h),
    λ h. elim h [
      | inl k ↦ subst T (sym is) (or_left (bit (value a) x) (bit (value b) x) k)
      | inr k ↦ subst T (sym is) (or_right (bit (value a) x) (bit (value b) x) k)
    ],
  )
    where
      whole : r ≡ or_words a b
      whole = sym (take_all 8 r (omega arith)) ∙ e ∙ ap₂ or_words (take_all 8 a (omega arith)) (take_all 8 b (omega arith))

      is : bit (value r) x ≡ (bit (value a) x || bit (value b) x)
      is = ap (λ (w : List ℕ). bit (value w) x) whole ∙ (near_or (self x a la fa) (self x b lb fb)).bits x (le_refl (suc x))

  -- the states of both
  pub both_has : take 8 r ≡ and_words (take 8 a) (take 8 b) → (x : ℕ) → Has r x ↔ (Has a x × Has b x)
  both_has e x = (
    λ h. and_split (bit (value a) x) (bit (value b) x) (subst T is h),
    λ h. subst T (sym is) (and_both (bit (value a) x) (bit (value b) x) h.0 h.1),
  )
    where
      whole : r ≡ and_words a b
      whole = sym (take_all 8 r (omega arith)) ∙ e ∙ ap₂ and_words (take_all 8 a (omega arith)) (take_all 8 b (omega arith))

      is : bit (value r) x ≡ (bit (value a) x && bit (value b) x)
      is = ap (λ (w : List ℕ). bit (value w) x) whole
          ∙ (near_and (suc x) 8 a b (λ y. bit (value a) y) (λ y. bit (value b) y) (self x a la fa) (self x b lb fb)).bits x (le_refl (suc x))

-- ---- THE LOWEST
module _ (row : List ℕ) (long : length row ≡ 8) (fit : Fit row) where
  -- the first word that is not 0 has it
  pub lowest_in : (i : ℕ) → i < 8 → (get_or row i 0 ≡ 0 → ⊥) → LowestSays row (64 * i + count_trailing_zeros 64 (get_or row i 0))
  lowest_in i h f =
      let r = count_trailing_zeros 64 (get_or row i 0) in
      let L = lowest_bit 64 (get_or row i 0) (omega (arith, f)) (fit_at row i fit) in
      let d : (64 * i + r) / 64 ≡ i = omega (arith, L.0) in
      let m : (64 * i + r) % 64 ≡ r = omega (arith, L.0) in
      (omega (arith, L.0), λ x k. subst T (sym (row_bit row (64 * i + r) fit ∙ ap₂ (λ (a b : ℕ). bit (get_or row a 0) b) d m ∙ L.1.here)) tt)

  -- no word has one
  pub lowest_none : ((j : ℕ) → j < 8 → get_or row j 0 ≡ 0) → LowestSays row 0
  lowest_none z = (omega arith, λ x k. absurd (none x k))
    where
      none : (x : ℕ) → Has row x → ⊥
      none x k =
          let l = bit_below row x fit long k in
          no_bit (x % 64) (subst (λ (w : ℕ). T (bit w (x % 64))) (z (x / 64) (omega arith)) (subst T (row_bit row x fit) k))
