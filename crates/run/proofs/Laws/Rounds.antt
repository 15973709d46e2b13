-- TWO ROUNDS: one turn of the loop over the depths' back edges; that neither round looks at a letter; that nothing is added without a live source; and one
-- byte with both, of which the first is all for a rule without a back edge.
use mathlib.Core.Path.{◌≡◌, refl, sym, ap, ◌∙◌}
use mathlib.Core.Bool.{true, false, cond}
use mathlib.Core.List.{List, []}
use Prim.Native.Nat.{ℕ, zero, suc, ◌+◌, ◌-◌, ◌*◌, ◌≤◌, ◌<◌}
use native.Mathlib.Nat.{le_refl, not-suc-le-zero}
use native.Mathlib.Omega.{arith}
use lib.Bits.{bit_and}
use lib.ListN.{get_or, length, replicate, take}
use Rattle.model.specs.Models.Run.{close_words, fall_words, Masks, pass_words, returns_words, return_words, rise_words, second_round}
use Rattle.model.specs.Models.Verdict.{same_words}
use Rattle.model.specs.Models.Words.{or_words}
use Rattle.mask.proofs.Laws.Same.{same_true}
use Rattle.run_word.proofs.Laws.Rounds.{no_more, one_more}
use Rattle.run_moves.specs.Sets.{Apart}
use Rattle.run_moves.proofs.Laws.Back.{return_none}
use Rattle.run.specs.Work.{cut_masks, NoBack, pass_masks, rule_masks, Sources, Stepped, SteppedOn, Whole, work_masks}
use Rattle.run.proofs.Laws.Passes.{pass_letters}
use Rattle.run.proofs.Laws.Rows.{no_word}

module _ (M : Masks) where
  pub returns_one : (k : ℕ) → 0 < k → (first live : List ℕ)
      → returns_words M (k - 1) first (or_words live (return_words (M.back_mask (k - 1) 0) (M.back_mask (k - 1) 1) first)) ≡ returns_words M k first live
  returns_one zero h first live = absurd (not-suc-le-zero h)
  returns_one (suc k) h first live =
      let e : suc k - 1 ≡ k = omega arith in
      ap (λ (j : ℕ). returns_words M j first (or_words live (return_words (M.back_mask j 0) (M.back_mask j 1) first))) e

-- ---- no letter matters
module _ (n : ℕ) (ws ws' : List ℕ) (W W' : ℕ) (table : List (List ℕ)) where
  abbrev A : Masks
  A = cut_masks n (work_masks ws W table)

  abbrev B : Masks
  B = cut_masks n (work_masks ws' W' table)

  returns_letters : (k : ℕ) (first live : List ℕ) → returns_words A k first live ≡ returns_words B k first live
  returns_letters zero first live = refl
  returns_letters (suc k) first live = returns_letters k first (or_words live (return_words (A.back_mask k 0) (A.back_mask k 1) first))

  second_letters : (d : ℕ) (first : List ℕ) → second_round A d first ≡ second_round B d first
  second_letters d first =
      let more = returns_words A d first first in
      ap (cond (same_words more first) first) (pass_letters n ws ws' W W' table d more)
      ∙ ap (λ (m : List ℕ). cond (same_words m first) first (pass_words B d m)) (returns_letters d first first)

  pub close_letters : (d : ℕ) (live : List ℕ) → close_words A d live ≡ close_words B d live
  close_letters d live = second_letters d (pass_words A d live) ∙ ap (second_round B d) (pass_letters n ws ws' W W' table d live)

-- ---- no live source: nothing is added, and the first round is all
module _ (n : ℕ) (table : List (List ℕ)) (d : ℕ) (row : List ℕ) (W : Whole table d) (S : Sources table d row) (first : List ℕ) (long : length first ≡ 8)
    (A : Apart n row first) where
  pub returns_none : (k : ℕ) → k ≤ d → returns_words (pass_masks n table) k (take n first) (take n first) ≡ take n first
  returns_none zero h = refl
  returns_none (suc k) h =
      let ss = get_or table (81 + 2 * k) [] in
      let ts = get_or table (82 + 2 * k) [] in
      let e : 82 + 2 * k ≡ 81 + (2 * k + 1) = omega arith in
      ap (returns_words (pass_masks n table) k (take n first))
      (return_none n ss ts first first (W (2 * k) (omega arith) ∙ sym long) (ap (λ (i : ℕ). length (get_or table i [])) e ∙ W (2 * k + 1) (omega arith) ∙ sym long) refl (S n first A k h))
      ∙ returns_none k (omega arith)

  second_none : take n first ≡ second_round (pass_masks n table) d (take n first)
  second_none =
      no_more (pass_masks n table) d (take n first) (take n first) (sym (returns_none d (le_refl d))) (same_true (take n first) (take n first) refl)

-- ---- ONE BYTE, from what it is with one round: with the second too, and without where there is no back edge
module _ {n : ℕ} {ws : List ℕ} {b d : ℕ} {table : List (List ℕ)} {live first : List ℕ} (S : Stepped n ws b d table live first) where
  twice_made : (r : List ℕ) → take n r ≡ second_round (pass_masks n table) d (take n first) → length r ≡ 8 → SteppedOn n ws b d table live r
  twice_made r e long = record {
    made = e ∙ second_letters n [] ws 0 n table d (take n first) ∙ ap (second_round (rule_masks ws n table) d) S.made;
    eight = long;
  }

  pub once_made : Whole table d → NoBack table d → SteppedOn n ws b d table live first
  once_made W none = twice_made first (second_none n table d (replicate 8 0) W none first S.eight (λ i h. ap (λ (x : ℕ). bit_and x (get_or first i 0)) (no_word 8 i))) S.eight

  -- with what the back edges add to the first round: nothing, or the passes once more
  module _ (more : List ℕ) (e : let f = take n first in take n more ≡ returns_words (pass_masks n table) d f f) where
    pub turn_once : same_words (take n more) (take n first) ≡ true → SteppedOn n ws b d table live first
    turn_once t = twice_made first (no_more (pass_masks n table) d (take n first) (take n more) e t) S.eight

    pub turn_twice : same_words (take n more) (take n first) ≡ false → (up second : List ℕ) → take n up ≡ rise_words (pass_masks n table) d (take n more)
        → take n second ≡ fall_words (pass_masks n table) d 0 (take n up) → length second ≡ 8 → SteppedOn n ws b d table live second
    turn_twice t up second r f long =
        twice_made second (f ∙ ap (fall_words (pass_masks n table) d 0) r ∙ one_more (pass_masks n table) d (take n first) (take n more) e t) long
