-- THE WHOLE IMAGE is written when each section is written at its place, since each begins where the one before it ends.
use mathlib.Core.Path.{◌≡◌, sym, ap, ◌∙◌}
use mathlib.Core.List.{List, [], ◌++◌}
use Prim.Native.Nat.{ℕ, suc, ◌+◌, ◌-◌, ◌*◌, ◌≤◌}
use native.Mathlib.Numerals.{add-one}
use native.Mathlib.Omega.{arith}
use lib.ListN.{get_or, length, take}
use lib.Seq.{length-sets, sets}
use Rattle.model.specs.Image.{join, section}
use Rattle.model.specs.Models.LayOut.{back-source, back-target, gather-block, gather-source, gather-target, loop_place, number, scatter-block, scatter-source, scatter-target}
use Rattle.model.specs.Models.Sections.{letters_at}
use Rattle.image_sections.specs.Sections.{Within}
use Rattle.image_sections.specs.declared.Sections.{Sections}
use Rattle.image_sections.proofs.Laws.Within.{scatters_in}
use Rattle.tokens_masks.specs.Masks.{block_plane, planes, row_in, row_number, table_in}
use Rattle.tokens_masks.specs.Says.{Laid}
use Rattle.tokens_masks.specs.Tables.{Table}
use Rattle.tokens_masks.specs.Tapes.{propagate_block_table, propagate_source_table, propagate_target_table, table_of}
use Rattle.tokens_masks.specs.declared.Tape.{Tape}
use Rattle.tokens_masks.proofs.InWords.{row_long}
use Rattle.image.specs.Work.{back_part, both_part, depth_masks, image_words, letter_row, letters_part, repeat_row, repeats_part, shape_part, tables_part}
use Rattle.image.proofs.Laws.Lengths.{letters_long, masks_long, repeats_long}
use Rattle.image.proofs.Laws.Loops.{repeats_are}
use Rattle.image.proofs.Laws.Parts.{length_section}
use Rattle.image.proofs.Laws.Planes.{three_masks, two_masks}
use Rattle.image.proofs.Laws.Stores.{sets_on}

-- a section us with its count before place i, and then vs, which goes where us ends
both : (l : List ℕ) (i : ℕ) (us vs : List ℕ) {words after : List ℕ} {k : ℕ} → 1 ≤ i → i + length us ≡ k → words ≡ sets l (i - 1) us
    → after ≡ sets words (k - 1) vs → after ≡ sets l (i - 1) (us ++ vs)
both l i us vs {k = k} some e p q = q ∙ ap (λ (ws : List ℕ). sets ws (k - 1) vs) p ∙ sets_on l (i - 1) us vs (k - 1) (omega arith)

-- a section of the masks of planes whose tables are known
module _ (W d first : ℕ) (ms : List ℕ) (few : d ≤ 9) {a b : Table} (ea : table_in ms (first + 0) ≡ a) (eb : table_in ms (first + 1) ≡ b) where
  module _ {c : Table} (ec : table_in ms (first + 2) ≡ c) where
    tables_are : section (join d 0 (depth_masks W first 3 ms)) ≡ tables_part W d a b c
    tables_are = ap section (three_masks W d first ms few) ∙ (λ i. tables_part W d (ea i) (eb i) (ec i))

    tables_long : W ≤ 8 → first + 3 ≤ planes → length ms ≡ 936 → length (tables_part W d a b c) ≡ 1 + W * (3 * d)
    tables_long narrow inside long =
        ap length (sym tables_are) ∙ length_section (3 * W) d (depth_masks W first 3 ms) (masks_long 3 ms first narrow few inside long) ∙ omega arith

  back_is : section (join d 0 (depth_masks W first 2 ms)) ≡ back_part W d a b
  back_is = ap section (two_masks W d first ms few) ∙ (λ i. back_part W d (ea i) (eb i))

module _ (p : Sections) (row : List ℕ) (t : Tape) (I : Within p p.length) where
  abbrev W : ℕ
  W = p.width

  abbrev d : ℕ
  d = p.depth

  abbrev loops : List ℕ
  loops = get_or (table_of t loop_place) 0 []

  abbrev letter_part : List ℕ
  letter_part = letters_part W row t.length

  length_letters : length letter_part ≡ 1 + W * 256
  length_letters = length_section W 256 (λ b. take W (letter_row row t.length b)) (letters_long row t.length I.narrow)

  abbrev repeat_part : List ℕ
  repeat_part = repeats_part W row t.length loops

  length_repeats : length loops ≡ 8 → length repeat_part ≡ 1 + W * 256
  length_repeats eight =
      length_section W 256 (λ b. take W (repeat_row row t.length loops b)) (repeats_long row t.length I.narrow loops eight)

  -- the words after each section
  pub whole : {ms : List ℕ} → Laid t ms → length ms ≡ 936 → p.letters ≡ letters_at → (l : List ℕ) → p.length ≤ length l
      → {places shaped lettered repeated scattered gathered propagated after : List ℕ} → places ≡ row_in ms (row_number 0 (number loop_place))
      → shaped ≡ sets l 0 (shape_part p)
      → lettered ≡ sets shaped (p.letters - 1) letter_part
      → repeated ≡ sets lettered (p.repeats - 1) (both_part W lettered p.letters places)
      → scattered ≡ sets repeated (p.scatter - 1) (section (join d 0 (depth_masks W (number scatter-block) 3 ms)))
      → gathered ≡ sets scattered (p.gather - 1) (section (join d 0 (depth_masks W (number gather-block) 3 ms)))
      → propagated ≡ sets gathered (p.propagate - 1) (section (join (d + 1) 0 (depth_masks W block_plane 3 ms)))
      → after ≡ sets propagated (p.back - 1) (section (join d 0 (depth_masks W (number back-source) 2 ms))) → after ≡ sets l 0 (image_words p row t)
  whole {ms = ms} L long first l fits {places} {shaped} {lettered} {repeated} {scattered} {gathered} {propagated} are-loops by_shape by-letters
      by-repeats by-scatter by-gather by-propagate by-back =
      let few : d ≤ 9 = omega (arith, I.deep) in
      let more : suc d ≤ 9 = omega (arith, I.deep) in
      let one : d + 1 ≡ suc d = add-one d in
      let scatter_part = tables_part W d (table_of t scatter-block) (table_of t scatter-source) (table_of t scatter-target) in
      let gather_part = tables_part W d (table_of t gather-block) (table_of t gather-source) (table_of t gather-target) in
      let propagate_part = tables_part W (suc d) (propagate_block_table t) (propagate_source_table t) (propagate_target_table t) in
      let backs_part = back_part W d (table_of t back-source) (table_of t back-target) in
      let long_scatters = tables_long W d (number scatter-block) ms few L.scatter_blocks L.scatter_sources L.scatter_targets I.narrow (omega arith) long in
      let long_gathers = tables_long W d (number gather-block) ms few L.gather_blocks L.gather_sources L.gather_targets I.narrow (omega arith) long in
      let long_propagates =
      tables_long W (suc d) block_plane ms more L.propagate_blocks L.propagate_sources L.propagate_targets I.narrow (omega arith) long in
      let long_loops : length loops ≡ 8 = ap length (sym L.loop_places) ∙ row_long ms (row_number 0 (number loop_place)) (omega (arith, long)) in
      let are_repeats : both_part W lettered p.letters places ≡ repeat_part =
      ap (λ (ws : List ℕ). both_part W ws p.letters places) by-letters
      ∙ repeats_are W row t.length I.narrow shaped p.letters I.counted
      (omega (arith, I.letters, I.repeats, scatters_in I, ap length by_shape, length-sets l 0 (shape_part p))) places
      ∙ ap (repeats_part W row t.length) (are-loops ∙ L.loop_places) in
      let fromPropagate = propagate_part ++ backs_part in
      let fromGather = gather_part ++ fromPropagate in
      let fromScatter = scatter_part ++ fromGather in
      let fromRepeats = repeat_part ++ fromScatter in
      both l 1 (shape_part p) (letter_part ++ fromRepeats) (omega arith) (sym first) by_shape
      (both shaped p.letters letter_part fromRepeats I.counted (omega (arith, length_letters, I.letters)) by-letters
      (both lettered p.repeats repeat_part fromScatter (omega (arith, I.letters)) (omega (arith, length_repeats long_loops, I.repeats))
      (by-repeats ∙ ap (sets lettered (p.repeats - 1)) are_repeats)
      (both repeated p.scatter scatter_part fromGather (omega (arith, I.repeats)) (omega (arith, long_scatters, I.scatters))
      (by-scatter
      ∙ ap (sets repeated (p.scatter - 1)) (tables_are W d (number scatter-block) ms few L.scatter_blocks L.scatter_sources L.scatter_targets))
      (both scattered p.gather gather_part fromPropagate (omega (arith, I.scatters)) (omega (arith, long_gathers, I.gathers))
      (by-gather ∙ ap (sets scattered (p.gather - 1)) (tables_are W d (number gather-block) ms few L.gather_blocks L.gather_sources L.gather_targets))
      (both gathered p.propagate propagate_part backs_part (omega (arith, I.gathers)) (omega (arith, long_propagates, I.propagates))
      (by-propagate
      ∙ ap (sets gathered (p.propagate - 1))
      (ap (λ (n : ℕ). section (join n 0 (depth_masks W block_plane 3 ms))) one
      ∙ tables_are W (suc d) block_plane ms more L.propagate_blocks L.propagate_sources L.propagate_targets))
      (by-back ∙ ap (sets propagated (p.back - 1)) (back_is W d (number back-source) ms few L.back_sources L.back_targets)))))))
