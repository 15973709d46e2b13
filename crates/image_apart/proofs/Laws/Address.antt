-- WHERE THE MASKS LIE, as the code reads them: the words from a place on are a part of a section.
use mathlib.Core.Path.{◌≡◌, sym, ap, ◌∙◌}
use mathlib.Core.List.{List}
use Prim.Native.Nat.{ℕ, ◌+◌, ◌*◌, ◌≤◌}
use lib.ListN.{drop, take}
use lib.Seq.{drop-drop}
use Rattle.model.specs.Models.Sections.{chunk}
use Rattle.model.proofs.Image.Address as model
use Rattle.image_apart.specs.Work.{words_at}

module _ (ws S : List ℕ) (a W : ℕ) (e : S ≡ drop a ws) where
  -- mask k of a section
  pub chunk_at : (k : ℕ) → words_at ws (a + W * k) W ≡ chunk W k S
  chunk_at k = sym (model.chunk_at W k a S ws e)

  -- mask j of the n of depth k
  pub part_at : (n j k at : ℕ) → W * j + W ≤ n * W → at ≡ a + n * W * k + W * j → words_at ws at W ≡ chunk W j (chunk (n * W) k S)
  part_at n j k at h q =
      sym (model.part_of_part W (W * j) (n * W) (drop (n * W * k) S) h
      ∙ ap (λ (l : List ℕ). take W (drop (W * j) (drop (n * W * k) l))) e
      ∙ ap (λ (l : List ℕ). take W (drop (W * j) l)) (drop-drop (n * W * k) a ws)
      ∙ ap (take W) (drop-drop (W * j) (a + n * W * k) ws)
      ∙ ap (λ (n : ℕ). words_at ws n W) (sym q))
