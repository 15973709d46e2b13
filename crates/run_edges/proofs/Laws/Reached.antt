-- WHAT IS REACHED, ENTERED AND LEFT, of all eight words.
use mathlib.Core.Path.{◌≡◌, sym, ap, ap₂, ◌∙◌}
use mathlib.Core.List.{List}
use Prim.Native.Nat.{ℕ}
use native.Mathlib.Omega.{arith}
use lib.ListN.{length, take}
use lib.Seq.{take_all}
use Rattle.model.specs.Models.Sections.{depth_word}
use Rattle.model.specs.Models.Run.{close_words, move_words}
use Rattle.model.specs.Models.Words.{and_words, or_words, put_bit}
use Rattle.run_edges.specs.Reach.{enter_words, leave_words, letters_of, reach_words, repeats_of, unshift_words}
use Rattle.run.specs.Work.{masks_of, no_words}
use Rattle.run.proofs.Laws.Widths.{close_whole}

-- ---- REACHED
module _ (ws : List ℕ) (q : ℕ) (r : List ℕ) where
  pub reach_whole : (one : List ℕ) → length one ≡ 8 → length r ≡ 8 → one ≡ put_bit no_words q
      → take 8 r ≡ take 8 (close_words (masks_of ws) (depth_word ws) one) → r ≡ reach_words ws q
  reach_whole one ho hr eo e =
      close_whole (masks_of ws) (depth_word ws) one r (omega arith) (omega arith) e ∙ ap (close_words (masks_of ws) (depth_word ws)) eo

-- ---- ENTERED AND LEFT
module _ (ws : List ℕ) (b : ℕ) (live r : List ℕ) where
  pub enter_whole : (l p n : List ℕ) → length l ≡ 8 → length p ≡ 8 → length n ≡ 8 → length live ≡ 8 → length r ≡ 8
      → l ≡ letters_of ws b → p ≡ repeats_of ws b → n ≡ no_words → take 8 r ≡ move_words (take 8 l) (take 8 p) (take 8 n) (take 8 live) → r ≡ enter_words ws b live
  enter_whole l p n hl hp hn hv hr el ep en e =
      let m : move_words (take 8 l) (take 8 p) (take 8 n) (take 8 live) ≡ move_words (letters_of ws b) (repeats_of ws b) no_words live =
      rw (take_all 8 l (omega arith), take_all 8 p (omega arith), take_all 8 n (omega arith), take_all 8 live (omega arith), el, ep, en) in
      sym (take_all 8 r (omega arith)) ∙ e ∙ m

  pub leave_whole : (l p taken back stayed : List ℕ) → length l ≡ 8 → length p ≡ 8 → length taken ≡ 8 → length back ≡ 8 → length stayed ≡ 8 → length live ≡ 8 → length r ≡ 8
      → l ≡ letters_of ws b → p ≡ repeats_of ws b → take 8 taken ≡ and_words (take 8 live) (take 8 l) → back ≡ unshift_words taken
      → take 8 stayed ≡ and_words (take 8 live) (take 8 p) → take 8 r ≡ or_words (take 8 back) (take 8 stayed) → r ≡ leave_words ws b live
  leave_whole l p taken back stayed hl hp ht hb hs hv hr el ep et eb es e =
      let A = take_all 8 live (omega arith) in
      let T₁ : taken ≡ and_words live (letters_of ws b) = sym (take_all 8 taken (omega arith)) ∙ et ∙ ap₂ and_words A (take_all 8 l (omega arith) ∙ el) in
      let S : stayed ≡ and_words live (repeats_of ws b) = sym (take_all 8 stayed (omega arith)) ∙ es ∙ ap₂ and_words A (take_all 8 p (omega arith) ∙ ep) in
      sym (take_all 8 r (omega arith)) ∙ e ∙ ap₂ or_words (take_all 8 back (omega arith) ∙ eb ∙ ap unshift_words T₁) (take_all 8 stayed (omega arith) ∙ S)
