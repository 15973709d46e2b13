-- WHERE THE MASKS OF AN IMAGE LIE: a part of a section is words from one place on.
use mathlib.Core.Path.{◌≡◌, refl, ap, ◌∙◌}
use mathlib.Core.List.{List, [], ◌∷◌}
use Prim.Native.Nat.{ℕ, zero, suc, ◌+◌, ◌*◌, ◌≤◌, ◌<◌}
use native.Mathlib.Nat.{mul-add, mul_assoc, mul-le-mul_left, mul_left_comm, mul-suc}
use native.Mathlib.Omega.{arith}
use lib.ListN.{drop, take}
use lib.Seq.{drop-drop, take-take}
use Rattle.model.specs.Models.Sections.{chunk}

-- there is room for part k where there is for n
pub part_fits : (w : ℕ) {k n : ℕ} → k < n → w * k + w ≤ w * n
part_fits w {k} h = omega (arith, mul-suc w k, mul-le-mul_left w h)

-- a part of a part is a part of the whole
pub part_of_part : (n m k : ℕ) (l : List ℕ) → m + n ≤ k → take n (drop m (take k l)) ≡ take n (drop m l)
part_of_part n zero k l h = take-take n k l (omega arith)
part_of_part n (suc m) zero l h = absurd (omega arith)
part_of_part n (suc m) (suc k) [] h = refl
part_of_part n (suc m) (suc k) (x ∷ l) h = part_of_part n m k l (omega arith)

-- mask k of a section, and mask j of the three of depth k
pub chunk_at : (W k a : ℕ) (S ws : List ℕ) → S ≡ drop a ws → chunk W k S ≡ take W (drop (a + W * k) ws)
chunk_at W k a S ws e = ap (chunk W k) e ∙ ap (take W) (drop-drop (W * k) a ws)

pub three_at : (W k j a : ℕ) (S ws : List ℕ) → j < 3 → S ≡ drop a ws → chunk W j (chunk (3 * W) k S) ≡ take W (drop (a + W * (3 * k + j)) ws)
three_at W k j a S ws h e =
    part_of_part W (W * j) (3 * W) (drop (3 * W * k) S) (go j h)
    ∙ ap (λ (l : List ℕ). take W (drop (W * j) (drop (3 * W * k) l))) e
    ∙ ap (λ (l : List ℕ). take W (drop (W * j) l)) (drop-drop (3 * W * k) a ws)
    ∙ ap (take W) (drop-drop (W * j) (a + 3 * W * k) ws)
    ∙ ap (λ (n : ℕ). take W (drop n ws)) place
  where
    go : (i : ℕ) → i < 3 → W * i + W ≤ 3 * W
    go zero l = omega arith
    go (suc zero) l = omega arith
    go (suc (suc zero)) l = omega arith
    go (suc (suc (suc i))) l = absurd (omega arith)

    place : a + 3 * W * k + W * j ≡ a + W * (3 * k + j)
    place = omega (arith, mul-add W (3 * k) j, mul_left_comm W 3 k, mul_assoc 3 W k)

pub two_at : (W k j a : ℕ) (S ws : List ℕ) → j < 2 → S ≡ drop a ws → chunk W j (chunk (2 * W) k S) ≡ take W (drop (a + W * (2 * k + j)) ws)
two_at W k j a S ws h e =
    part_of_part W (W * j) (2 * W) (drop (2 * W * k) S) (go j h)
    ∙ ap (λ (l : List ℕ). take W (drop (W * j) (drop (2 * W * k) l))) e
    ∙ ap (λ (l : List ℕ). take W (drop (W * j) l)) (drop-drop (2 * W * k) a ws)
    ∙ ap (take W) (drop-drop (W * j) (a + 2 * W * k) ws)
    ∙ ap (λ (n : ℕ). take W (drop n ws)) place
  where
    go : (i : ℕ) → i < 2 → W * i + W ≤ 2 * W
    go zero l = omega arith
    go (suc zero) l = omega arith
    go (suc (suc i)) l = absurd (omega arith)

    place : a + 2 * W * k + W * j ≡ a + W * (2 * k + j)
    place = omega (arith, mul-add W (2 * k) j, mul_left_comm W 2 k, mul_assoc 2 W k)
