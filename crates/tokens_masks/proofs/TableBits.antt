-- The bits of a table after strokes: those that it had, and those that a stroke of the table's plane covers.
use mathlib.Core.Path.{◌≡◌, refl, sym, ap, ◌∙◌, subst}
use mathlib.Core.Logic.{◌⊎◌, inl, inr}
use mathlib.Core.Bool.{Bool, true, false, ◌&&◌, ◌||◌, cond, and-false, and-true, and-or_distrib_right, or_assoc, or-false}
use mathlib.Core.List.{List, [], ◌∷◌}
use Prim.Native.Nat.{ℕ, zero, suc, ◌+◌, ◌-◌, ◌^◌, ◌≤◌, ◌<◌}
use native.Mathlib.Nat.{eq-or-lt_of_le}
use native.Mathlib.Omega.{arith}
use borrow.Author.Tests.{eqb-false, eqb-true}
use lib.Dec.{T, eqb, eqb_refl, eqb→eq, le→leb, leb, leb→le, lt→ltb, ltb, ltb→lt}
use lib.ListN.{get_or, get_or-replicate, length, length-set, replicate}
use lib.Seq.{get_or-set_other, get_or-set_same}
use Rattle.model.specs.Bits.{bit}
use Rattle.model.specs.Lists.{All, any}
use Rattle.model.specs.Models.LayOut.{covers, marks, same_plane, Stroke, Plane}
use Rattle.model.specs.Models.Words.{Fit, put_bit, value}
use Rattle.model.proofs.Laws.Bits.{bit_zero}
use Rattle.model.proofs.Laws.Bool.{and_both, and_split, is_not, or_left, or_right, or_split, same_truth}
use Rattle.model.proofs.Words.Put.{put-bit, put_fit}
use Rattle.tokens_masks.specs.Tables.{blank, mark_run, mark_state, paint_plane, paint_stroke, Table}
use Rattle.tokens_masks.proofs.Within.{Within}

-- nine rows of eight words; bit x of row k
pub record Rows (a : Table) : Type 0 where
  pub nine : length a ≡ 9
  pub row : (k : ℕ) → k < 9 → (length (get_or a k []) ≡ 8) × Fit (get_or a k [])

abbrev pub bit_at : Table → ℕ → ℕ → Bool
bit_at a k x = bit (value (get_or a k [])) x

-- ---- one state
module _ (a : Table) (R : Rows a) (k x : ℕ) (hk : k < 9) (hx : x < 512) where
  same_row : get_or (mark_state a k x) k [] ≡ put_bit (get_or a k []) x
  same_row = get_or-set_same a k (put_bit (get_or a k []) x) [] (omega (arith, R.nine))

  mark_rows : Rows (mark_state a k x)
  mark_rows = record { nine = length-set a k (put_bit (get_or a k []) x) ∙ R.nine; row = λ j h. go j h (eqb j k) refl }
    where
      go : (j : ℕ) → j < 9 → (b : Bool) → eqb j k ≡ b → (length (get_or (mark_state a k x) j []) ≡ 8) × Fit (get_or (mark_state a k x) j [])
      go j h true e =
          subst (λ (r : List ℕ). (length r ≡ 8) × Fit r) (sym (ap (λ (i : ℕ). get_or (mark_state a k x) i []) (eqb-true j k e) ∙ same_row))
          (length-set (get_or a k []) _ _ ∙ (R.row k hk).0, put_fit (get_or a k []) x (R.row k hk).1)
      go j h false e =
          subst (λ (r : List ℕ). (length r ≡ 8) × Fit r) (sym (get_or-set_other a k j (put_bit (get_or a k []) x) [] (eqb-false j k e))) (R.row j h)

  mark_bit : (j y : ℕ) → bit_at (mark_state a k x) j y ≡ (bit_at a j y || (eqb y x && eqb k j))
  mark_bit j y = go (eqb k j) refl
    where
      go : (b : Bool) → eqb k j ≡ b → bit_at (mark_state a k x) j y ≡ (bit_at a j y || (eqb y x && b))
      go true e =
          subst (λ (i : ℕ). bit_at (mark_state a k x) i y ≡ (bit_at a i y || (eqb y x && true))) (eqb-true k j e)
          (ap (λ (r : List ℕ). bit (value r) y) same_row
          ∙ put-bit (get_or a k []) x y (omega (arith, (R.row k hk).0)) (R.row k hk).1
          ∙ ap (λ (b : Bool). bit_at a k y || b) (sym (and-true (eqb y x))))
      go false e =
          ap (λ (r : List ℕ). bit (value r) y) (get_or-set_other a k j (put_bit (get_or a k []) x) [] (λ q. eqb-false k j e (sym q)))
          ∙ sym (ap (λ (b : Bool). bit_at a j y || b) (and-false (eqb y x)) ∙ or-false (bit_at a j y))

-- ---- the n states from x on
abbrev between : ℕ → ℕ → ℕ → Bool
between x z y = leb x y && ltb y z

between_fact : (x z y : ℕ) → T (between x z y) → (x ≤ y) × (y < z)
between_fact x z y t = let c = and_split (leb x y) (ltb y z) t in (leb→le x y c.0, ltb→lt y z c.1)

fact_between : (x z y : ℕ) → x ≤ y → y < z → T (between x z y)
fact_between x z y h l = and_both (leb x y) (ltb y z) (le→leb x y h) (lt→ltb y z l)

between_none : (x z y : ℕ) → z ≤ x → between x z y ≡ false
between_none x z y h = is_not (between x z y) (λ t. omega (arith, between_fact x z y t))

between_more : (x n y : ℕ) → (eqb y x || between (suc x) (suc x + n) y) ≡ between x (x + suc n) y
between_more x n y = same_truth (eqb y x || between (suc x) (suc x + n) y) (between x (x + suc n) y) there back
  where
    split : T (eqb y x) ⊎ T (between (suc x) (suc x + n) y) → T (between x (x + suc n) y)
    split (inl e) = let q = eqb→eq y x e in fact_between x (x + suc n) y (omega arith) (omega arith)
    split (inr t) = let q = between_fact (suc x) (suc x + n) y t in fact_between x (x + suc n) y (omega arith) (omega arith)

    there : T (eqb y x || between (suc x) (suc x + n) y) → T (between x (x + suc n) y)
    there t = split (or_split (eqb y x) (between (suc x) (suc x + n) y) t)

    join : (x ≡ y) ⊎ (x < y) → y < x + suc n → T (eqb y x || between (suc x) (suc x + n) y)
    join (inl e) l = or_left (eqb y x) (between (suc x) (suc x + n) y) (subst (λ (z : ℕ). T (eqb y z)) (sym e) (eqb_refl y))
    join (inr g) l = or_right (eqb y x) (between (suc x) (suc x + n) y) (fact_between (suc x) (suc x + n) y g (omega arith))

    back : T (between x (x + suc n) y) → T (eqb y x || between (suc x) (suc x + n) y)
    back t = let q = between_fact x (x + suc n) y t in join (eq-or-lt_of_le q.0) q.1

-- what b has is what a has, and m
pub record Adds (a b : Table) (m : ℕ → ℕ → Bool) : Type 0 where
  pub rows : Rows b
  pub bits : (k x : ℕ) → bit_at b k x ≡ (bit_at a k x || m k x)

run_adds : (n : ℕ) (a : Table) (k x : ℕ) → Rows a → k < 9 → ((y : ℕ) → x ≤ y → y < x + n → y < 512)
    → Adds a (mark_run n a k x) (λ j y. between x (x + n) y && eqb k j)
run_adds zero a k x R hk h = record {
  rows = R;
  bits = λ j y. sym (ap (λ (b : Bool). bit_at a j y || (b && eqb k j)) (between_none x (x + 0) y (omega arith)) ∙ or-false (bit_at a j y));
}
run_adds (suc n) a k x R hk h =
    let A = run_adds n (mark_state a k x) k (suc x) (mark_rows a R k x hk (h x (omega arith) (omega arith))) hk (λ y l m. h y (omega arith) (omega arith)) in
    record {
      rows = A.rows;
      bits = λ j y. A.bits j y
          ∙ ap (λ (b : Bool). b || (between (suc x) (suc x + n) y && eqb k j)) (mark_bit a R k x hk (h x (omega arith) (omega arith)) j y)
          ∙ or_assoc (bit_at a j y) (eqb y x && eqb k j) (between (suc x) (suc x + n) y && eqb k j)
          ∙ ap (λ (b : Bool). bit_at a j y || b)
          (sym (and-or_distrib_right (eqb y x) (between (suc x) (suc x + n) y) (eqb k j)) ∙ ap (λ (b : Bool). b && eqb k j) (between_more x n y));
    }

-- A STROKE
stroke_adds : (a : Table) (s : Stroke) → Rows a → Within s → Adds a (paint_stroke a s) (covers s)
stroke_adds a s R W =
    let A = run_adds (s.to - s.from) a s.row s.from R W.0 (λ y h l. omega (arith, W.1)) in
    record { rows = A.rows; bits = λ j y. A.bits j y ∙ ap (λ (b : Bool). bit_at a j y || (b && eqb s.row j)) (same y) }
  where
    z : ℕ
    z = s.from + (s.to - s.from)

    same : (y : ℕ) → between s.from z y ≡ between s.from s.to y
    same y = same_truth (between s.from z y) (between s.from s.to y)
        (λ t. let q = between_fact s.from z y t in fact_between s.from s.to y q.0 (omega arith))
        (λ t. let q = between_fact s.from s.to y t in fact_between s.from z y q.0 (omega arith))

-- ALL STROKES OF A PLANE
pub plane_adds : (w : Plane) (ss : List Stroke) (a : Table) → Rows a → All Within ss → Adds a (paint_plane w ss a) (λ k x. any (marks w k x) ss)
plane_adds w [] a R W = record { rows = R; bits = λ k x. sym (or-false (bit_at a k x)) }
plane_adds w (s ∷ ss) a R W =
    let A = first (same_plane s.plane w) in
    let B = plane_adds w ss (cond (same_plane s.plane w) (paint_stroke a s) a) A.rows W.1 in
    record {
      rows = B.rows;
      bits = λ k x. B.bits k x ∙ ap (λ (b : Bool). b || any (marks w k x) ss) (A.bits k x) ∙ or_assoc (bit_at a k x) (marks w k x s) (any (marks w k x) ss);
    }
  where
    first : (b : Bool) → Adds a (cond b (paint_stroke a s) a) (λ k x. b && covers s k x)
    first true = stroke_adds a s R W.0
    first false = record { rows = R; bits = λ k x. sym (or-false (bit_at a k x)) }

-- ---- the blank table
pub blank_rows : Rows blank
blank_rows = record { nine = refl; row = λ k h. subst (λ (r : List ℕ). (length r ≡ 8) × Fit r) (sym (get_or-replicate 9 k (replicate 8 0) [] h)) (refl, fits) }
  where
    z : 0 < 2 ^ 64
    z = omega arith

    fits : Fit (replicate 8 0)
    fits = (z, (z, (z, (z, (z, (z, (z, (z, tt))))))))

pub blank_bit : (k x : ℕ) → k < 9 → bit_at blank k x ≡ false
blank_bit k x h = ap (λ (r : List ℕ). bit (value r) x) (get_or-replicate 9 k (replicate 8 0) [] h) ∙ bit_zero x
