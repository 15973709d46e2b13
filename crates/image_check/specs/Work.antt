-- WHAT THE COMPARISON COMPUTES: any words, with what is laid out for a tape, section by section.
use Rattle.std.specs.Prelude.{Bool, ◌&&◌, List, [], ℕ, suc, ◌+◌, ◌*◌, get_or}
use Rattle.model.specs.Image.{join}
use Rattle.model.specs.Models.LayOut.{back-source, back-target, gather-block, gather-source, gather-target, letter-place, loop_place, number, scatter-block, scatter-source, scatter-target}
use Rattle.model.specs.Models.Verdict.{same_words}
use Rattle.model.specs.Models.Words.{and_words}
use Rattle.tokens_masks.specs.Masks.{block_plane, row_in, row_number}
use Rattle.tokens_masks.specs.Tables.{Table}
use Rattle.tokens_masks.specs.Tapes.{propagate_block_table, propagate_source_table, propagate_target_table, table_of}
use Rattle.tokens_masks.specs.declared.Tape.{Tape}
use Rattle.image_sections.specs.declared.Sections.{Sections}
use Rattle.image.specs.Work.{depth_masks, three_rows, two_rows}
use Rattle.image_apart.specs.Work.{words_at}

-- a byte's mask of the repeats, beside its mask of the letters at the loops' places
abbrev pub same_repeat : List ℕ → Sections → (loops : List ℕ) → ℕ → Bool
same_repeat ws p loops b = same_words (words_at ws (p.repeats + p.width * b) p.width) (and_words (words_at ws (p.letters + p.width * b) p.width) loops)

-- the repeats, beside the letters at the loops' places
abbrev pub same_repeats : List ℕ → (letters repeats W : ℕ) → List ℕ → Bool
same_repeats ws letters repeats W loops = same_words (words_at ws repeats (W * 256)) (join 256 0 (λ b. and_words (words_at ws (letters + W * b) W) loops))

-- the masks of `count` planes from `first` on, for each depth, from a place on
abbrev pub same_masks : List ℕ → (at W depths first count : ℕ) → List ℕ → Bool
same_masks ws at W depths first count masks = same_words (words_at ws at (count * W * depths)) (join depths 0 (depth_masks W first count masks))

-- the words, with the masks lent
abbrev pub same_laid : List ℕ → Sections → (letters masks : List ℕ) → Bool
same_laid ws s letters masks =
    same_words letters (row_in masks (row_number 0 (number letter-place)))
    && (same_repeats ws s.letters s.repeats s.width (row_in masks (row_number 0 (number loop_place)))
    && (same_masks ws s.scatter s.width s.depth (number scatter-block) 3 masks
    && (same_masks ws s.gather s.width s.depth (number gather-block) 3 masks
    && (same_masks ws s.propagate s.width (s.depth + 1) block_plane 3 masks && same_masks ws s.back s.width s.depth (number back-source) 2 masks))))

-- the same by the tables of the tape for which they are laid out
abbrev pub same_tables : List ℕ → (at W depths : ℕ) → Table → Table → Table → Bool
same_tables ws at W depths block source target =
    same_words (words_at ws at (3 * W * depths)) (join depths 0 (λ k. three_rows W (get_or block k []) (get_or source k []) (get_or target k [])))

abbrev pub same_scatter : List ℕ → (at W d : ℕ) → Tape → Bool
same_scatter ws at W d t = same_tables ws at W d (table_of t scatter-block) (table_of t scatter-source) (table_of t scatter-target)

abbrev pub same_gather : List ℕ → (at W d : ℕ) → Tape → Bool
same_gather ws at W d t = same_tables ws at W d (table_of t gather-block) (table_of t gather-source) (table_of t gather-target)

abbrev pub same_propagate : List ℕ → (at W d : ℕ) → Tape → Bool
same_propagate ws at W d t = same_tables ws at W (suc d) (propagate_block_table t) (propagate_source_table t) (propagate_target_table t)

abbrev pub same_back : List ℕ → (at W d : ℕ) → Tape → Bool
same_back ws at W d t =
    same_words (words_at ws at (2 * W * d)) (join d 0 (λ k. two_rows W (get_or (table_of t back-source) k []) (get_or (table_of t back-target) k [])))

abbrev pub same_all : List ℕ → Sections → List ℕ → Tape → Bool
same_all ws s letters t =
    same_words letters (get_or (table_of t letter-place) 0 [])
    && (same_repeats ws s.letters s.repeats s.width (get_or (table_of t loop_place) 0 [])
    && (same_scatter ws s.scatter s.width s.depth t
    && (same_gather ws s.gather s.width s.depth t
    && (same_propagate ws s.propagate s.width s.depth t && same_back ws s.back s.width s.depth t))))
