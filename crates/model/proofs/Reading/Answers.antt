-- An answer is sound if what was read is what the grammar says of the bytes that were taken: each way in which a reader goes on keeps its answer
-- sound. And what may follow a part of a rule, as tests on the next byte: with these the readers know where a part ends.
use mathlib.Core.Path.{◌≡◌, refl, sym, ap, subst}
use mathlib.Core.Bool.{Bool, true, false, not, cond}
use mathlib.Core.List.{List, [], ◌∷◌, ◌++◌, append_assoc}
use Prim.Native.Nat.{ℕ, ◌≤◌}
use native.Mathlib.Omega.{arith}
use lib.Dec.{T, T_not, not_T, eqb, eqb→eq}
use lib.ListN.{length}
use Rattle.model.specs.Lists.{any, within}
use Rattle.model.specs.Bytes.{byte, bytes}
use Rattle.model.specs.Models.Places.{closes, free}
use Rattle.model.specs.Models.Reader.{bad, bind, case, got, over, past, Read}
use Rattle.model.proofs.Laws.Bool.{cond_cases, is_false, not-not, unequal}
use Rattle.model.proofs.Laws.Lists.{any_in, any_out}

-- ---- sound answers
-- what was got from l is what X says of the bytes u that were taken from it
pub data Sound {A : Type 0} (X : List ℕ → A → Type 0) (l : List ℕ) : Read A → Type 0 where
  took : (u : List ℕ) {a : A} {r : List ℕ} → l ≡ u ++ r → X u a → Sound X l (got a r)
  stopped : {r : List ℕ} → Sound X l (bad r)

-- the byte x comes next, or it does not
pub past_cases : (P : Read (Unit {0}) → Type 0) (x : ℕ) (r : List ℕ) → ((r' : List ℕ) → r ≡ x ∷ r' → P (got tt r')) → P (bad r) → P (past x r)
past_cases P x [] f g = g
past_cases P x (y ∷ ys) f g = go (eqb y x) (eqb→eq y x)
  where
    go : (b : Bool) → (T b → y ≡ x) → P (cond b (got tt ys) (bad (y ∷ ys)))
    go true e = f ys (ap (λ (z : ℕ). z ∷ ys) (e tt))
    go false e = g

-- each way to go on: the bytes taken and what they mean are handed to the next step
module _ {B : Type 0} {Y : List ℕ → B → Type 0} {k : List ℕ} where
  pub bind_sound : {A : Type 0} {X : List ℕ → A → Type 0} {l : List ℕ} {m : Read A} {f : A → List ℕ → Read B}
      → Sound X l m → ((u : List ℕ) (a : A) (r : List ℕ) → l ≡ u ++ r → X u a → Sound Y k (f a r)) → Sound Y k (bind m f)
  bind_sound (took u {a} {r} e d) g = g u a r e d
  bind_sound stopped g = stopped

  -- bytes taken from another list, with another meaning
  pub map_sound : {X : List ℕ → B → Type 0} {l : List ℕ} {m : Read B}
      → Sound X l m → ((u : List ℕ) (b : B) (r : List ℕ) → l ≡ u ++ r → X u b → Sound Y k (got b r)) → Sound Y k m
  map_sound (took u {a} {r} e d) g = g u a r e d
  map_sound stopped g = stopped

  pub cond_sound : (b : Bool) {m n : Read B} → (T b → Sound Y k m) → (T (not b) → Sound Y k n) → Sound Y k (cond b m n)
  cond_sound b f g = cond_cases (Sound Y k) b f g

  -- the byte y is x, or it is not
  pub equal_sound : (y x : ℕ) {m n : Read B} → (y ≡ x → Sound Y k m) → Sound Y k n → Sound Y k (cond (eqb y x) m n)
  equal_sound y x f g = cond_sound (eqb y x) (λ h. f (eqb→eq y x h)) (λ h. g)

  pub case_past_sound : (x : ℕ) (r : List ℕ) {f : Unit {0} → List ℕ → Read B} {n : Read B}
      → ((z : Unit {0}) (r' : List ℕ) → r ≡ x ∷ r' → Sound Y k (f z r')) → Sound Y k n → Sound Y k (case (past x r) f n)
  case_past_sound x r {f} {n} h g = past_cases (λ m. Sound Y k (case m f n)) x r (h tt) g

  pub bind_past_sound : (x : ℕ) (r : List ℕ) {f : Unit {0} → List ℕ → Read B}
      → ((z : Unit {0}) (r' : List ℕ) → r ≡ x ∷ r' → Sound Y k (f z r')) → Sound Y k (bind (past x r) f)
  bind_past_sound x r {f} h = past_cases (λ m. Sound Y k (bind m f)) x r (h tt) stopped

-- ---- what was got has a property
abbrev pub Holds : {A : Type 0} → (A → List ℕ → Type 0) → Read A → Type 0
Holds P (got a r) = P a r
Holds P (bad r) = Unit {0}

pub sound_holds : {A : Type 0} {X : List ℕ → A → Type 0} {l : List ℕ} {m : Read A} (P : A → List ℕ → Type 0)
    → Sound X l m → ((u : List ℕ) (a : A) (r : List ℕ) → l ≡ u ++ r → X u a → P a r) → Holds P m
sound_holds P (took u {a} {r} e d) f = f u a r e d
sound_holds P stopped f = tt

-- ---- a byte among others
within_any : (f : ℕ → Bool) (x : ℕ) (ys : List ℕ) → T (within x ys) → T (f x) → T (any f ys)
within_any f x ys h k =
    let o = any_out (eqb x) ys h in
    any_in f ys o.0 o.1 (subst (λ (y : ℕ). T (f y)) (eqb→eq x o.0 o.2) k)

-- a byte that passes a test which none of ys passes is none of them
pub not_among : (f : ℕ → Bool) (x : ℕ) (ys : List ℕ) → T (f x) → T (not (any f ys)) → T (not (within x ys))
not_among f x ys h k = not_T (within x ys) (λ w. T_not (any f ys) k (within_any f x ys w h))

-- a byte among ys passes a test which each of them passes
pub among : (f : ℕ → Bool) (x : ℕ) (ys : List ℕ) → T (within x ys) → T (not (any (λ y. not (f y)) ys)) → T (f x)
among f x ys w k = not-not (f x) (λ n. T_not (any (λ y. not (f y)) ys) k (within_any (λ y. not (f y)) x ys w n))

-- a byte y that a test tells from x is not x
pub past_other : (f : ℕ → Bool) (x y : ℕ) (ys : List ℕ) → T (f y) → T (not (f x)) → past x (y ∷ ys) ≡ bad (y ∷ ys)
past_other f x y ys h k = rw (unequal y x (λ e. T_not (f x) k (subst (λ (z : ℕ). T (f z)) e h)))

-- ---- what may come next (`closes`, `free`: specs/Models/Places)
-- an item may begin so
abbrev pub opens : List ℕ → Bool
opens [] = false
opens (x ∷ xs) = not (within x (bytes "|)?*+{"))

-- a letter may begin so
abbrev pub begins : List ℕ → Bool
begins [] = false
begins (x ∷ xs) = not (within x (bytes "(|)?*+{"))

pub closes_past : (r : List ℕ) → T (closes r) → past (byte "|") r ≡ bad r
closes_past [] h = refl
closes_past (x ∷ xs) h = past_other (λ y. within y (bytes ")")) (byte "|") x xs h tt

pub closes_over : (r : List ℕ) → T (closes r) → T (over r)
closes_over [] h = tt
closes_over (x ∷ xs) h = among (λ y. within y (bytes "|)")) x (bytes ")") h tt

pub over_free : (r : List ℕ) → T (over r) → T (free r)
over_free [] h = tt
over_free (x ∷ xs) h = among (λ y. not (within y (bytes "?*+{"))) x (bytes "|)") h tt

pub free_other : (x : ℕ) (xs : List ℕ) (y : ℕ) → T (free (x ∷ xs)) → T (within y (bytes "?*+{")) → eqb x y ≡ false
free_other x xs y h k = unequal x y (λ e. T_not (within x (bytes "?*+{")) h (subst (λ (z : ℕ). T (within z (bytes "?*+{"))) (sym e) k))

pub opens_free : (l : List ℕ) → T (opens l) → T (free l)
opens_free [] h = absurd h
opens_free (x ∷ xs) h = not_among (λ y. not (within y (bytes "|)?*+{"))) x (bytes "?*+{") h tt

pub opens_over : (l : List ℕ) → T (opens l) → over l ≡ false
opens_over [] h = absurd h
opens_over (x ∷ xs) h = is_false (over (x ∷ xs)) (not_among (λ y. not (within y (bytes "|)?*+{"))) x (bytes "|)") h tt)

pub begins_opens : (l : List ℕ) → T (begins l) → T (opens l)
begins_opens [] h = absurd h
begins_opens (x ∷ xs) h = not_among (λ y. not (within y (bytes "(|)?*+{"))) x (bytes "|)?*+{") h tt

pub begins_past : (l : List ℕ) → T (begins l) → past (byte "(") l ≡ bad l
begins_past [] h = absurd h
begins_past (x ∷ xs) h = past_other (λ y. not (within y (bytes "(|)?*+{"))) (byte "(") x xs h tt

pub begins_append : (u r : List ℕ) → T (begins u) → T (begins (u ++ r))
begins_append [] r h = absurd h
begins_append (x ∷ xs) r h = h

pub opens_append : (u r : List ℕ) → T (opens u) → T (opens (u ++ r))
opens_append [] r h = absurd h
opens_append (x ∷ xs) r h = h

pub opens_long : (u : List ℕ) → T (opens u) → 1 ≤ length u
opens_long [] h = absurd h
opens_long (x ∷ xs) h = omega arith

-- ---- a text of two parts, and what follows it
pub parted : (w u v r : List ℕ) → w ≡ u ++ v → w ++ r ≡ u ++ (v ++ r)
parted w u v r p = rw p (append_assoc u v r)
