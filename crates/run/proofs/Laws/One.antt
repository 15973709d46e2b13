-- A RULE OF ONE WORD: the first word of each of its masks of work is the image's own, so the run on plain words finds the same ends.
use mathlib.Core.Path.{◌≡◌, refl, sym, ap, ◌∙◌}
use mathlib.Core.List.{List, ◌++◌}
use Prim.Native.Nat.{ℕ, ◌-◌, ◌≤◌, ◌<◌}
use native.Mathlib.Omega.{arith}
use lib.ListN.{length, replicate, take}
use lib.Seq.{drop-cons}
use Rattle.model.specs.Models.Sections.{back_at, depth_word, gather_at, image_length, letter_place, propagate_at, repeat_place, scatter_at, state_word, three_place, two_place}
use Rattle.model.specs.Models.Run.{ends_with, Masks}
use Rattle.model.proofs.Words.Run.{Bytes}
use Rattle.image_sections.specs.Sections.{Placed, sections_in, width_of}
use Rattle.image_sections.proofs.Laws.Within.{single}
use Rattle.run_word.specs.One.{one_masks, word_at}
use Rattle.run_word.proofs.Laws.Back.{BackCut}
use Rattle.run_word.proofs.Laws.Cut.{Cut, ends_cut}
use Rattle.run.specs.Work.{masks_of, row_at}
use Rattle.run.proofs.Laws.Backs.{masks_low}

module _ (ws : List ℕ) (S : Placed ws (sections_in ws)) (few : state_word ws ≤ 64) where
  abbrev W : ℕ
  W = width_of ws

  abbrev d : ℕ
  d = depth_word ws

  abbrev M : Masks
  M = masks_of ws

  pub one : W ≡ 1
  one = omega (arith, S.some)

  -- a row of which the place is known for one word
  row : (f : ℕ → ℕ) (i : ℕ) → f 1 ≡ i → i < length ws → take 1 (row_at ws (f W) W) ≡ word_at ws i
  row f i e h =
      ap (λ (w : ℕ). take 1 (row_at ws (f w) w)) one ∙ ap (λ (j : ℕ). take 1 (row_at ws j 1)) e
      ∙ ap (λ (l : List ℕ). take 1 (take 1 l ++ replicate 7 0)) (drop-cons ws i 0 h)

  long : length ws ≡ image_length 1 d
  long = (single S few).long

  pub mask_cut : Cut 1 d M (one_masks ws)
  mask_cut = record {
    letters = λ b l. row (λ w. letter_place w b) (letter_place 1 b) refl (omega (arith, long));
    loops = λ b l. row (λ w. repeat_place w b) (repeat_place 1 b) refl (omega (arith, long));
    scatters = λ k j h l. row (λ w. three_place (scatter_at w) w k j) (three_place (scatter_at 1) 1 k j) refl (omega (arith, long));
    gathers = λ k j h l. row (λ w. three_place (gather_at w d) w k j) (three_place (gather_at 1 d) 1 k j) refl (omega (arith, long));
    propagates = λ k j h l. row (λ w. three_place (propagate_at w d) w k j) (three_place (propagate_at 1 d) 1 k j) refl (omega (arith, long));
    start = refl;
  }

  pub mask_back : BackCut 1 d M (one_masks ws)
  mask_back = record {
    backs = λ k j h l. row (λ w. two_place (back_at w d) w k j) (two_place (back_at 1 d) 1 k j) refl (omega (arith, long));
    low = masks_low ws S 1 (omega (arith, one));
  }

-- THE SAME ENDS
pub one_same : (ws text : List ℕ) → Placed ws (sections_in ws) → state_word ws ≤ 64 → Bytes text
    → ends_with (one_masks ws) (depth_word ws) (state_word ws - 1) text ≡ ends_with (masks_of ws) (depth_word ws) (state_word ws - 1) text
one_same ws text S h B =
    sym (ends_cut 1 (depth_word ws) (masks_of ws) (one_masks ws) (mask_cut ws S h) (mask_back ws S h) (state_word ws - 1) (omega (arith, S.some)) text B)
