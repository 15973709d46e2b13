-- THE BITS OF A SUM AND OF A DIFFERENCE. Bit i is made of the two bits there and of what the bits below hand on.
-- A difference z = x - y is the sum z + y = x read backwards: it borrows where that sum carries.
use mathlib.Core.Path.{◌≡◌, refl, sym, ap, ◌∙◌}
use mathlib.Core.Bool.{Bool, true, false, not}
use Prim.Native.Nat.{ℕ, zero, suc, ◌+◌, ◌/◌, ◌%◌, ◌^◌, ◌<◌}
use native.Mathlib.Nat.{le_refl, le_of_suc-le-suc, not-suc-le-zero, pow-suc}
use native.Mathlib.Omega.{arith}
use lib.Dec.{eqb}
use Rattle.model.specs.Bits.{bit, digit}

-- ---- the last digit of a number
abbrev pub odd : ℕ → Bool
odd n = eqb (n % 2) 1

pub digit_small : (b : Bool) → digit b < 2
digit_small true = omega arith
digit_small false = omega arith

pub last_digit : (n : ℕ) → (n % 2 ≡ digit (odd n))
last_digit n = go (n % 2) (omega arith)
  where
    go : (d : ℕ) → d < 2 → d ≡ digit (eqb d 1)
    go zero h = refl
    go (suc zero) h = refl
    go (suc (suc d)) h = omega arith

pub odd_is : (n : ℕ) (b : Bool) → n % 2 ≡ digit b → odd n ≡ b
odd_is n true e = ap (λ (d : ℕ). eqb d 1) e
odd_is n false e = ap (λ (d : ℕ). eqb d 1) e

-- ---- one digit: whether an odd number of three are set, what a sum carries on, what a difference borrows
abbrev pub odd3 : Bool → Bool → Bool → Bool
odd3 true true c = c
odd3 true false c = not c
odd3 false true c = not c
odd3 false false c = c

abbrev pub carry : Bool → Bool → Bool → Bool
carry true true c = true
carry true false c = c
carry false true c = c
carry false false c = false

abbrev pub borrow : Bool → Bool → Bool → Bool
borrow x y c = carry (not x) y c

-- if z, y and c add up to the digit x, then y and c taken from x leave z, and borrow what they carried
odd3_back : (z y c : Bool) → odd3 (odd3 z y c) y c ≡ z
odd3_back true true true = refl
odd3_back true true false = refl
odd3_back true false true = refl
odd3_back true false false = refl
odd3_back false true true = refl
odd3_back false true false = refl
odd3_back false false true = refl
odd3_back false false false = refl

borrow_back : (z y c : Bool) → borrow (odd3 z y c) y c ≡ carry z y c
borrow_back true true true = refl
borrow_back true true false = refl
borrow_back true false true = refl
borrow_back true false false = refl
borrow_back false true true = refl
borrow_back false true false = refl
borrow_back false false true = refl
borrow_back false false false = refl

-- ---- what goes into bit i, from c into bit 0, where f says what each bit hands on
module _ (f : Bool → Bool → Bool → Bool) where
  abbrev pub into : (ℕ → Bool) → (ℕ → Bool) → Bool → ℕ → Bool
  into X Y c zero = c
  into X Y c (suc i) = f (X i) (Y i) (into X Y c i)

  into_shift : (X Y : ℕ → Bool) (c : Bool) (i : ℕ) → into (λ j. X (suc j)) (λ j. Y (suc j)) (f (X 0) (Y 0) c) i ≡ into X Y c (suc i)
  into_shift X Y c zero = refl
  into_shift X Y c (suc i) = ap (f (X (suc i)) (Y (suc i))) (into_shift X Y c i)

  -- the bits that come out, from nothing into bit 0
  abbrev rippled : (ℕ → Bool) → (ℕ → Bool) → ℕ → Bool
  rippled X Y i = odd3 (X i) (Y i) (into X Y false i)

  -- they depend on the bits from there down
  module _ (X Y X' Y' : ℕ → Bool) where
    into_same : (c : Bool) (i : ℕ) → ((j : ℕ) → j < i → X j ≡ X' j) → ((j : ℕ) → j < i → Y j ≡ Y' j) → into X Y c i ≡ into X' Y' c i
    into_same c zero h_x h_y = refl
    into_same c (suc i) h_x h_y =
        λ k. f (h_x i (le_refl (suc i)) k) (h_y i (le_refl (suc i)) k) (into_same c i (λ j h. h_x j (omega arith)) (λ j h. h_y j (omega arith)) k)

    pub rippled_same : (m : ℕ) → ((j : ℕ) → j < m → X j ≡ X' j) → ((j : ℕ) → j < m → Y j ≡ Y' j) → (i : ℕ) → i < m → rippled X Y i ≡ rippled X' Y' i
    rippled_same m h_x h_y i l = λ k. odd3 (h_x i l k) (h_y i l k) (into_same false i (λ j h. h_x j (omega arith)) (λ j h. h_y j (omega arith)) k)

abbrev pub sum_bits : (ℕ → Bool) → (ℕ → Bool) → ℕ → Bool
sum_bits = rippled carry

abbrev pub difference_bits : (ℕ → Bool) → (ℕ → Bool) → ℕ → Bool
difference_bits = rippled borrow

-- ---- a carry out of n bits
abbrev pub over : Bool → ℕ → ℕ
over true n = 2 ^ n
over false n = 0

over_suc : (c : Bool) (n : ℕ) → over c (suc n) ≡ over c n + over c n
over_suc true n = omega (arith, pow-suc 2 n)
over_suc false n = refl

-- one digit of the sum z = x + y + b, and what it leaves
add_step : (p q b : Bool) (x y z k : ℕ) → x % 2 ≡ digit p → y % 2 ≡ digit q → z + (k + k) ≡ x + y + digit b
    → (z % 2 ≡ digit (odd3 p q b)) × (z / 2 + k ≡ x / 2 + y / 2 + digit (carry p q b))
add_step true true true x y z k hp hq e = omega arith
add_step true true false x y z k hp hq e = omega arith
add_step true false true x y z k hp hq e = omega arith
add_step true false false x y z k hp hq e = omega arith
add_step false true true x y z k hp hq e = omega arith
add_step false true false x y z k hp hq e = omega arith
add_step false false true x y z k hp hq e = omega arith
add_step false false false x y z k hp hq e = omega arith

-- THE BITS OF A SUM z = x + y + b, where c is carried out of its n bits
pub add_bit : (i n x y z : ℕ) (b c : Bool) → i < n → z + over c n ≡ x + y + digit b → bit z i ≡ odd3 (bit x i) (bit y i) (into carry (bit x) (bit y) b i)
add_bit i zero x y z b c h e = absurd (not-suc-le-zero h)
add_bit zero (suc n) x y z b c h e =
    odd_is z (odd3 (odd x) (odd y) b) (add_step (odd x) (odd y) b x y z (over c n) (last_digit x) (last_digit y) (omega (arith, over_suc c n))).0
add_bit (suc i) (suc n) x y z b c h e =
    add_bit i n (x / 2) (y / 2) (z / 2) (carry (odd x) (odd y) b) c (le_of_suc-le-suc h)
    (add_step (odd x) (odd y) b x y z (over c n) (last_digit x) (last_digit y) (omega (arith, over_suc c n))).1
    ∙ ap (odd3 (bit (x / 2) i) (bit (y / 2) i)) (into_shift carry (bit x) (bit y) b i)

-- the sum X = Z + Y carries into each bit what the difference Z = X - Y borrows from it
carries_back : (X Y Z : ℕ → Bool) (b : Bool) (i : ℕ) → ((j : ℕ) → j < i → X j ≡ odd3 (Z j) (Y j) (into carry Z Y b j)) → into carry Z Y b i ≡ into borrow X Y b i
carries_back X Y Z b zero h = refl
carries_back X Y Z b (suc i) h =
    sym (borrow_back (Z i) (Y i) (into carry Z Y b i)) ∙ (λ k. borrow (sym (h i (le_refl (suc i))) k) (Y i) (carries_back X Y Z b i (λ j l. h j (omega arith)) k))

-- THE BITS OF A DIFFERENCE z = x - y - b, where c is borrowed from past its n bits
pub sub_bit : (i n x y z : ℕ) (b c : Bool) → i < n → z + y + digit b ≡ x + over c n → bit z i ≡ odd3 (bit x i) (bit y i) (into borrow (bit x) (bit y) b i)
sub_bit i n x y z b c h e =
    sym (odd3_back (bit z i) (bit y i) (into carry (bit z) (bit y) b i))
    ∙ (λ k. odd3 (sym (sum i h) k) (bit y i) (carries_back (bit x) (bit y) (bit z) b i (λ j l. sum j (omega arith)) k))
  where
    sum : (j : ℕ) → j < n → bit x j ≡ odd3 (bit z j) (bit y j) (into carry (bit z) (bit y) b j)
    sum j l = add_bit j n z y x b c l (sym e)
