-- THE MASKS OF WORK HOLD THE TREE'S SETS, for words that are the tree's image: they are the image's own masks with zeros above.
use mathlib.Core.Path.{◌≡◌, refl, sym, ◌∙◌, subst}
use mathlib.Core.Bool.{Bool, false}
use mathlib.Core.List.{List, [], ◌∷◌, ◌++◌}
use Prim.Native.Nat.{ℕ, zero, suc, ◌+◌, ◌-◌, ◌*◌, ◌≤◌, ◌<◌}
use native.Mathlib.Nat.{not-suc-le-zero}
use native.Mathlib.Omega.{arith}
use lib.Dec.{eqb-suc-zero}
use lib.ListN.{drop, replicate, take}
use Rattle.model.specs.Answers.{ImageOf}
use Rattle.model.specs.Bits.{bit}
use Rattle.model.specs.Edges.{depth, states}
use Rattle.model.specs.Image.{width}
use Rattle.model.specs.Models.Sections.{back_at, back_in, chunk, gather_at, gather_in, letter_place, letters_at, letters_in, propagate_at, propagate_in, repeat_place, repeats_at, repeats_in, scatter_at, scatter_in}
use Rattle.model.specs.Models.Words.{value}
use Rattle.model.specs.Tree.{Tree}
use Rattle.model.proofs.Ends.Run.{letter_set, loop_set, start_set}
use Rattle.model.proofs.Image.Address.{chunk_at, three_at, two_at}
use Rattle.model.proofs.Image.Sets.{arc_image}
use Rattle.model.proofs.Language.Arcs.{arcs}
use Rattle.model.proofs.Laws.Bits.{bit_zero}
use Rattle.model.proofs.Words.Holds.{Holds, pad_holds}
use Rattle.model.proofs.Words.ImageRun.{image_carry}
use Rattle.model.proofs.Words.Run.{Carry}
use Rattle.image_sections.proofs.Laws.OfTree.{as_arcs}
use Rattle.run_moves.specs.Less.{start_words}
use Rattle.run.specs.Work.{masks_of, row_at}

-- the mask of state 0: one word, and zeros above
start_bit : (x : ℕ) → bit (value (1 ∷ [])) x ≡ start_set x
start_bit zero = refl
start_bit (suc x) = bit_zero x ∙ sym (eqb-suc-zero x)

start_holds : (m : ℕ) → 0 < m → Holds m 8 start_words start_set
start_holds m h = pad_holds m 1 7 (1 ∷ []) start_set (record {
  near = record { len = refl; fit = (omega arith, tt); bits = λ x l. start_bit x };
  none = λ x l. go x (omega arith);
})
  where
    go : (x : ℕ) → 0 < x → bit (value (1 ∷ [])) x ≡ false
    go zero l = absurd (not-suc-le-zero l)
    go (suc x) l = bit_zero x

module _ (t : Tree) where
  abbrev m : ℕ
  m = states t

  abbrev W : ℕ
  W = width m

  abbrev d : ℕ
  d = depth t

  abbrev A : List ℕ
  A = arc_image t

  module _ (few : m ≤ 512) where
    -- a mask of the image as eight words
    padded : (xs : List ℕ) (at : ℕ) (f : ℕ → Bool) → xs ≡ take W (drop at A) → Holds m W xs f → Holds m 8 (row_at A at W) f
    padded xs at f e H =
        let eight : W + (8 - W) ≡ 8 = omega arith in
        subst (λ (n : ℕ). Holds m n (row_at A at W) f) eight
        (subst (λ (l : List ℕ). Holds m (W + (8 - W)) (l ++ replicate (8 - W) 0) f) e (pad_holds m W (8 - W) xs f H))

    -- mask j of the three of depth k, of a section S that begins at a place
    placed : (S : List ℕ) (at k j : ℕ) (f : ℕ → Bool) → S ≡ drop at A → j < 3 → Holds m W (chunk W j (chunk (3 * W) k S)) f → Holds m 8 (row_at A (at + W * (3 * k + j)) W) f
    placed S at k j f e l H = padded (chunk W j (chunk (3 * W) k S)) (at + W * (3 * k + j)) f (three_at W k j at S A l e) H

    scattered : (k j : ℕ) (f : ℕ → Bool) → j < 3 → Holds m W (chunk W j (chunk (3 * W) k (scatter_in A))) f → Holds m 8 ((masks_of A).scatter_mask k j) f
    scattered k j f = placed (scatter_in A) (scatter_at W) k j f refl

    gathered : (k j : ℕ) (f : ℕ → Bool) → j < 3 → Holds m W (chunk W j (chunk (3 * W) k (gather_in A))) f → Holds m 8 ((masks_of A).gather_mask k j) f
    gathered k j f = placed (gather_in A) (gather_at W d) k j f refl

    propagated : (k j : ℕ) (f : ℕ → Bool) → j < 3 → Holds m W (chunk W j (chunk (3 * W) k (propagate_in A))) f → Holds m 8 ((masks_of A).propagate_mask k j) f
    propagated k j f = placed (propagate_in A) (propagate_at W d) k j f refl

    -- of the two of the back edges of depth k
    returned : (k j : ℕ) (f : ℕ → Bool) → j < 2 → Holds m W (chunk W j (chunk (2 * W) k (back_in A))) f → Holds m 8 ((masks_of A).back_mask k j) f
    returned k j f l = padded (chunk W j (chunk (2 * W) k (back_in A))) (back_at W d + W * (2 * k + j)) f (two_at W k j (back_at W d) (back_in A) A l refl)

    arc_carry : Carry m 8 t (masks_of A)
    arc_carry =
        let C = image_carry t in
        record {
          room = few;
          whole = C.whole;
          letters = λ b l. padded (chunk W b (letters_in A)) (letter_place W b) (letter_set (arcs t 0 0) b) (chunk_at W b letters_at (letters_in A) A refl) (C.letters b l);
          loops = λ b l. padded (chunk W b (repeats_in A)) (repeat_place W b) (loop_set (arcs t 0 0) b) (chunk_at W b (repeats_at W) (repeats_in A) A refl) (C.loops b l);
          scatter-block = λ k l. scattered k 0 _ (omega arith) (C.scatter-block k l);
          scatter-source = λ k l. scattered k 1 _ (omega arith) (C.scatter-source k l);
          scatter-target = λ k l. scattered k 2 _ (omega arith) (C.scatter-target k l);
          gather-block = λ k l. gathered k 0 _ (omega arith) (C.gather-block k l);
          gather-source = λ k l. gathered k 1 _ (omega arith) (C.gather-source k l);
          gather-target = λ k l. gathered k 2 _ (omega arith) (C.gather-target k l);
          propagate-block = λ k l. propagated k 0 _ (omega arith) (C.propagate-block k l);
          propagate-source = λ k l. propagated k 1 _ (omega arith) (C.propagate-source k l);
          propagate-target = λ k l. propagated k 2 _ (omega arith) (C.propagate-target k l);
          back-source = λ k l. returned k 0 _ (omega arith) (C.back-source k l);
          back-target = λ k l. returned k 1 _ (omega arith) (C.back-target k l);
          start = start_holds m (omega arith);
        }

-- ---- words that are an image
module _ (ws : List ℕ) (t : Tree) (I : ImageOf ws t) where
  pub carried : Carry (states t) 8 t (masks_of ws)
  carried = subst (λ (z : List ℕ). Carry (states t) 8 t (masks_of z)) (sym (as_arcs ws t I)) (arc_carry t I.few)
