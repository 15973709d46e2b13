-- Tests and what they say: T b is the statement that the test b passes.
use mathlib.Core.Path.{◌≡◌, refl, sym}
use mathlib.Core.Logic.{◌⊎◌, inl, inr, ◌≢◌}
use mathlib.Core.Bool.{Bool, true, false, not, ◌&&◌, ◌||◌, cond}
use Prim.Native.Nat.{ℕ, ◌≤◌, ◌<◌}
use native.Mathlib.Decide.{dec_le}
use native.Mathlib.Omega.{arith}
use lib.Dec.{T, eqb, leb, eqb→eq, le→leb}
use lib.Arith.{lt→nleb}

-- ---- not
pub not-true : (b : Bool) → not b ≡ true → b ≡ false
not-true true e = sym e
not-true false e = refl

pub not-false : (b : Bool) → not b ≡ false → b ≡ true
not-false true e = refl
not-false false e = sym e

-- ---- and, or
pub and_both : (a b : Bool) → T a → T b → T (a && b)
and_both true b h k = k
and_both false b h k = absurd h

pub and_split : (a b : Bool) → T (a && b) → T a × T b
and_split true b h = (tt, h)
and_split false b h = absurd h

pub or_left : (a b : Bool) → T a → T (a || b)
or_left true b h = tt
or_left false b h = absurd h

pub or_right : (a b : Bool) → T b → T (a || b)
or_right true b h = tt
or_right false b h = h

pub or_split : (a b : Bool) → T (a || b) → T a ⊎ T b
or_split true b h = inl tt
or_split false b h = inr h

pub or_none : (a b : Bool) → T (not (a || b)) → T (not a) × T (not b)
or_none true b h = absurd h
or_none false b h = (tt, h)

pub or_left_comm : (a b c : Bool) → (a || (b || c)) ≡ (b || (a || c))
or_left_comm true true c = refl
or_left_comm true false c = refl
or_left_comm false b c = refl

-- ---- a test that passes, and one that does not
pub cond_cases : {A : Type 0} (P : A → Type 0) (b : Bool) {x y : A} → (T b → P x) → (T (not b) → P y) → P (cond b x y)
cond_cases P true f g = f tt
cond_cases P false f g = g tt

pub is_true : (b : Bool) → T b → b ≡ true
is_true true h = refl
is_true false h = absurd h

pub is_false : (b : Bool) → T (not b) → b ≡ false
is_false true h = absurd h
is_false false h = refl

pub is_not : (b : Bool) → (T b → ⊥) → b ≡ false
is_not true h = absurd (h tt)
is_not false h = refl

pub not-not : (b : Bool) → (T (not b) → ⊥) → T b
not-not true h = tt
not-not false h = h tt

pub same_truth : (a b : Bool) → (T a → T b) → (T b → T a) → a ≡ b
same_truth true true f g = refl
same_truth true false f g = absurd (f tt)
same_truth false true f g = absurd (g tt)
same_truth false false f g = refl

-- ---- comparisons
pub unequal : (x y : ℕ) → x ≢ y → eqb x y ≡ false
unequal x y h = is_not (eqb x y) (λ t. h (eqb→eq x y t))

pub le_true : (m n : ℕ) → m ≤ n → leb m n ≡ true
le_true m n h = is_true (leb m n) (le→leb m n h)

pub le_false : (m n : ℕ) → n < m → leb m n ≡ false
le_false m n h = is_false (leb m n) (lt→nleb m n h)

pub le_or_lt : (m n : ℕ) → (m ≤ n) ⊎ (n < m)
le_or_lt m n = go (dec_le m n)
  where
    go : Dec (m ≤ n) → (m ≤ n) ⊎ (n < m)
    go (yes h) = inl h
    go (no h) = inr (omega arith)

pub pick-le {ℓ} : {X : Type ℓ} (q t : ℕ) (x y : X) → q ≤ t → cond (leb q t) x y ≡ x
pick-le q t x y h = go (leb q t) (le→leb q t h)
  where
    go : (b : Bool) → T b → cond b x y ≡ x
    go true _ = refl
    go false h = absurd h

pub pick-gt {ℓ} : {X : Type ℓ} (q t : ℕ) (x y : X) → t < q → cond (leb q t) x y ≡ y
pick-gt q t x y h = go (leb q t) (lt→nleb q t h)
  where
    go : (b : Bool) → T (not b) → cond b x y ≡ y
    go true h = absurd h
    go false _ = refl
