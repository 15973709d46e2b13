-- THE MASKS LAID OUT COMPARED: part k of a section is the masks of depth k, whose part `which` is the mask of the plane `which` after the first, so word j
-- of this mask stands (count * k + which) * W + j words after the section's first.
use mathlib.Core.Path.{◌≡◌, refl, sym, ap, ◌∙◌}
use mathlib.Core.Bool.{true, false}
use mathlib.Core.List.{List}
use Prim.Native.Nat.{ℕ, ◌+◌, ◌*◌, ◌≤◌, ◌<◌}
use native.Mathlib.Nat.{add-mul, mul_comm, mul_right_comm}
use native.Mathlib.Omega.{arith}
use lib.ListN.{get_or, length, take}
use lib.Seq.{get_or-take}
use Rattle.tokens_masks.specs.Masks.{planes, row_in, row_number}
use Rattle.tokens_masks.proofs.InWords.{row_long}
use Rattle.image.specs.Work.{depth_masks}
use Rattle.image.proofs.Laws.Lengths.{length_row, masks_long}
use Rattle.image_apart.specs.Work.{words_at}
use Rattle.image_check.specs.Work.{same_masks}
use Rattle.image_check.proofs.Laws.Compare.{differ_here, fails, part_in, passes, same-all, same_more, same_none, SameTo, word_there, words_alike}

-- the mask of a plane of depth k
abbrev pub plane_mask : (W first : ℕ) (ms : List ℕ) (k : ℕ) → ℕ → List ℕ
plane_mask W first ms k i = take W (row_in ms (row_number k (first + i)))

-- where a mask begins
abbrev pub mask_at : (at W count k which : ℕ) → ℕ
mask_at at W count k which = at + (count * k + which) * W

-- the first k depths are the same; of depth k the masks of the first `which` planes; of such a mask the first j words
pub record SameDepths (ws ms : List ℕ) (at W depths first count k : ℕ) : Type 0 where
  pub narrow : W ≤ 8
  pub few : depths ≤ 9
  pub in_planes : first + count ≤ planes
  pub sized : length ms ≡ 936
  pub same : SameTo ws at (count * W * depths) (count * W) depths (depth_masks W first count ms) k

abbrev pub SamePlanes : (ws ms : List ℕ) (at W first count k which : ℕ) → Type 0
SamePlanes ws ms at W first count k which = SameTo ws (at + count * W * k) (count * W) W count (plane_mask W first ms k) which

abbrev pub SameWords : (ws row : List ℕ) (from j : ℕ) → Type 0
SameWords ws row from j = (i : ℕ) → i < j → get_or ws (from + i) 0 ≡ get_or row i 0

pub depths_none : {ws ms : List ℕ} {at W depths first count : ℕ} → W ≤ 8 → depths ≤ 9 → first + count ≤ planes → length ms ≡ 936
    → at + count * W * depths ≤ length ws → SameDepths ws ms at W depths first count 0
depths_none {ms = ms} {first = first} {count = count} narrow few in_planes sized fits = record {
  narrow = narrow;
  few = few;
  in_planes = in_planes;
  sized = sized;
  same = same_none refl (masks_long count ms first narrow few in_planes sized) fits;
}

module _ {ws ms : List ℕ} {at W depths first count k : ℕ} (S : SameDepths ws ms at W depths first count k) where
  pub depths_all : depths ≤ k → true ≡ same_masks ws at W depths first count ms
  depths_all h = sym (same-all S.same h)

  module _ (depth : k < depths) where
    plane_long : (i : ℕ) → i < count → length (plane_mask W first ms k i) ≡ W
    plane_long i h =
        let row = row_number k (first + i) in
        length_row (row_in ms row) S.narrow (row_long ms row (omega (arith, S.few, S.in_planes, S.sized)))

    pub planes_none : SamePlanes ws ms at W first count k 0
    planes_none = same_none (mul_comm count W) plane_long (part_in S.same depth)

    pub planes_all : {which : ℕ} → SamePlanes ws ms at W first count k which → count ≤ which → SameDepths ws ms at W depths first count (k + 1)
    planes_all P h = record {
      narrow = S.narrow;
      few = S.few;
      in_planes = S.in_planes;
      sized = S.sized;
      same = passes S.same depth (sym (same-all P h)) refl;
    }

    module _ {which : ℕ} (P : SamePlanes ws ms at W first count k which) (plane : which < count) {row : List ℕ}
        (its : row ≡ row_in ms (row_number k (first + which))) where
      place : at + count * W * k + W * which ≡ mask_at at W count k which
      place = omega (arith, add-mul (count * k) which W, mul_right_comm count k W, mul_comm which W)

      word : (i : ℕ) → i < W → get_or (plane_mask W first ms k which) i 0 ≡ get_or row i 0
      word i l = get_or-take W (row_in ms (row_number k (first + which))) i 0 l ∙ ap (λ (us : List ℕ). get_or us i 0) (sym its)

      pub mask_same : {j : ℕ} → SameWords ws row (mask_at at W count k which) j → W ≤ j → SamePlanes ws ms at W first count k (which + 1)
      mask_same {j} E h =
          same_more P plane
          (ap (λ (x : ℕ). words_at ws x W) place
          ∙ words_alike ws (mask_at at W count k which) W (plane_mask W first ms k which) (omega (arith, place, part_in P plane)) (plane_long which plane)
          (λ i l. E i (omega arith) ∙ sym (word i l)))

      pub mask_differs : {j : ℕ} → j < W → (get_or ws (mask_at at W count k which + j) 0 ≡ get_or row j 0 → ⊥) → false ≡ same_masks ws at W depths first count ms
      mask_differs {j} l differs =
          fails S.same depth
          (sym
          (differ_here P plane
          (λ e. differs
          (sym (word_there ws (mask_at at W count k which) W j l)
          ∙ ap (λ (us : List ℕ). get_or us j 0) (ap (λ (x : ℕ). words_at ws x W) (sym place) ∙ e)
          ∙ word j l))))
          refl
