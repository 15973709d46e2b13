-- THE MASKS LENT ARE THOSE LAID OUT FOR THE TAPE, so the words are compared with the tape's tables.
use mathlib.Core.Path.{◌≡◌, ap, ◌∙◌}
use mathlib.Core.Bool.{◌&&◌}
use mathlib.Core.List.{List}
use Prim.Native.Nat.{ℕ, ◌+◌, ◌*◌}
use native.Mathlib.Numerals.{add-one}
use native.Mathlib.Omega.{arith}
use lib.ListN.{length}
use Rattle.model.specs.Image.{join}
use Rattle.model.specs.Models.LayOut.{back-source, gather-block, number, scatter-block}
use Rattle.model.specs.Models.Verdict.{same_words}
use Rattle.tokens_masks.specs.Masks.{block_plane}
use Rattle.tokens_masks.specs.Says.{Laid}
use Rattle.tokens_masks.specs.declared.Tape.{Tape}
use Rattle.image_sections.specs.Sections.{Within}
use Rattle.image_sections.specs.declared.Sections.{Sections}
use Rattle.image.proofs.Laws.Lengths.{back_rows}
use Rattle.image.proofs.Laws.Planes.{three_masks, two_masks}
use Rattle.image_apart.specs.Work.{words_at}
use Rattle.image_check.specs.Work.{same_all, same_back, same_gather, same_laid, same_masks, same_propagate, same_repeats, same_scatter, same_tables}

module _ (ws letters ms : List ℕ) {p : Sections} {tape : Tape} (I : Within p (length ws)) (L : Laid tape ms) where
  scatter_same : same_masks ws p.scatter p.width p.depth (number scatter-block) 3 ms ≡ same_scatter ws p.scatter p.width p.depth tape
  scatter_same =
      ap (same_words (words_at ws p.scatter (3 * p.width * p.depth))) (three_masks p.width p.depth (number scatter-block) ms (omega (arith, I.deep)))
      ∙ (λ i. same_tables ws p.scatter p.width p.depth (L.scatter_blocks i) (L.scatter_sources i) (L.scatter_targets i))

  gather_same : same_masks ws p.gather p.width p.depth (number gather-block) 3 ms ≡ same_gather ws p.gather p.width p.depth tape
  gather_same =
      ap (same_words (words_at ws p.gather (3 * p.width * p.depth))) (three_masks p.width p.depth (number gather-block) ms (omega (arith, I.deep)))
      ∙ (λ i. same_tables ws p.gather p.width p.depth (L.gather_blocks i) (L.gather_sources i) (L.gather_targets i))

  propagate_same : same_masks ws p.propagate p.width (p.depth + 1) block_plane 3 ms ≡ same_propagate ws p.propagate p.width p.depth tape
  propagate_same =
      ap (same_words (words_at ws p.propagate (3 * p.width * (p.depth + 1)))) (three_masks p.width (p.depth + 1) block_plane ms (omega (arith, I.deep)))
      ∙ (λ i. same_tables ws p.propagate p.width (add-one p.depth i) (L.propagate_blocks i) (L.propagate_sources i) (L.propagate_targets i))

  back_same : same_masks ws p.back p.width p.depth (number back-source) 2 ms ≡ same_back ws p.back p.width p.depth tape
  back_same =
      ap (same_words (words_at ws p.back (2 * p.width * p.depth))) (two_masks p.width p.depth (number back-source) ms (omega (arith, I.deep)))
      ∙ (λ i. same_words (words_at ws p.back (2 * p.width * p.depth)) (join p.depth 0 (back_rows p.width (L.back_sources i) (L.back_targets i))))

  pub laid_same : same_laid ws p letters ms ≡ same_all ws p letters tape
  laid_same = λ i.
      same_words letters (L.letter-places i)
      && (same_repeats ws p.letters p.repeats p.width (L.loop_places i) && (scatter_same i && (gather_same i && (propagate_same i && back_same i))))
