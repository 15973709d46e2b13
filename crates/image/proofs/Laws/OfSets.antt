-- THE WORDS WRITTEN, AS AN IMAGE OF SETS: for the tape of a tree and any classes, `image_words` is assembled from the states that the classes lead to,
-- those of them with a loop, and the tree's sets of unions, propagate edges and back edges. For the tree's own classes it is the tree's image.
use mathlib.Core.Path.{◌≡◌, refl, sym, ap, ap₂, ◌∙◌, subst}
use mathlib.Core.Bool.{Bool, ◌&&◌}
use mathlib.Core.List.{List, [], ◌∷◌, ◌++◌}
use Prim.Native.Nat.{ℕ, zero, suc, ◌≤◌, ◌<◌}
use native.Mathlib.Omega.{arith}
use lib.ListN.{get_or, length, take}
use Rattle.model.specs.Bits.{bit}
use Rattle.model.specs.Edges.{depth, states}
use Rattle.model.specs.Image.{back_source, back_target, gather_block, gather_source, gather_target, image, join, letters, propagate_block, propagate_source, propagate_target, repeats, scatter_block, scatter_source, scatter_target, section, width}
use Rattle.model.specs.Models.LayOut.{assemble, back-source, back-target, begin, gather-block, gather-source, gather-target, lay_out, loop_place, scatter-block, scatter-source, scatter-target, set, three, token_letters, two}
use Rattle.model.specs.Models.Sections.{image_length}
use Rattle.model.specs.Models.Tokens.{tokens}
use Rattle.model.specs.Models.Words.{and_words, Fit, value}
use Rattle.model.specs.Tree.{Tree}
use Rattle.model.proofs.Image.Laid.{assemble_same}
use Rattle.model.proofs.Image.OfEdges.{edge_set, letters-of}
use Rattle.model.proofs.Image.Rows.{join_same}
use Rattle.model.proofs.Image.SameBits.{holds_one}
use Rattle.model.proofs.Image.Sections.{length_assembled}
use Rattle.model.proofs.Image.Shown.{letters_are}
use Rattle.model.proofs.Image.Tokens.{length_tokens}
use Rattle.model.proofs.Image.WellFormed.{well_fine}
use Rattle.model.proofs.Reading.WellFormed.{rule_well}
use Rattle.model.proofs.Words.Holds.{Near, set_holds}
use Rattle.model.proofs.Words.Operations.{holds_and_l}
use Rattle.image_sections.specs.Sections.{sections_of}
use Rattle.tokens_masks.specs.Says.{RowsAre, TreeOnTape}
use Rattle.tokens_masks.specs.Tables.{Table}
use Rattle.tokens_masks.specs.Tapes.{propagate_block_table, propagate_source_table, propagate_target_table, table_of}
use Rattle.tokens_masks.specs.declared.Tape.{Tape}
use Rattle.tokens_masks.proofs.FirstWords.{first_words}
use Rattle.tokens_masks.proofs.OfTree.{back_source_says, back_target_says, gather_block_says, gather_source_says, gather_target_says, laid_row, loops_say, propagate_block_says, propagate_source_says, propagate_target_says, scatter_block_says, scatter_source_says, scatter_target_says}
use Rattle.image.specs.Says.{TokensOf}
use Rattle.image.specs.Work.{image_words, leads, letter_row, repeat_row, three_rows, two_rows}
use Rattle.image.proofs.Laws.Tapes.{states_are}
use Rattle.image.proofs.Laws.TokenWords.{in-class}

-- after the shape, six sections that are equal one by one
sections_same : (a : List ℕ) {l l' r r' s s' g g' p p' b b' : List ℕ} → l ≡ l' → r ≡ r' → s ≡ s' → g ≡ g' → p ≡ p' → b ≡ b'
    → section a ++ (section l ++ (section r ++ (section s ++ (section g ++ (section p ++ section b)))))
    ≡ section a ++ (section l' ++ (section r' ++ (section s' ++ (section g' ++ (section p' ++ section b')))))
sections_same a el er es eg ep eb =
    λ i. section a ++ (section (el i) ++ (section (er i) ++ (section (es i) ++ (section (eg i) ++ (section (ep i) ++ section (eb i))))))

module _ (row : List ℕ) (tape : Tape) (s : Tree) (O : TreeOnTape s tape) where
  abbrev m : ℕ
  m = states s

  abbrev W : ℕ
  W = width (states s)

  abbrev loops : List ℕ
  loops = get_or (table_of tape loop_place) 0 []

  -- the states that the classes lead to, and those of them with a loop
  abbrev looped : ℕ → ℕ → Bool
  looped b x = leads row b x && bit (value loops) x

  narrow : W ≤ 8
  narrow = omega (arith, O.few)

  letter-row : (b : ℕ) → take W (letter_row row tape.length b) ≡ set m W (leads row b)
  letter-row b = ap (λ (n : ℕ). take W (set n 8 (leads row b))) (states_are O) ∙ first_words m W (leads row b) narrow

  loops_near : Near m 8 loops (bit (value loops))
  loops_near =
      let N = (set_holds m 8 (lay_out (tokens s []) begin loop_place 0) O.few).near in
      let e = laid_row s tape O loop_place 0 (omega arith) in
      record { len = ap length e ∙ N.len; fit = subst Fit (sym e) N.fit; bits = λ x l. refl }

  repeat-row : (b : ℕ) → take W (repeat_row row tape.length loops b) ≡ set m W (looped b)
  repeat-row b =
      ap (λ (n : ℕ). take W (and_words (set n 8 (leads row b)) loops)) (states_are O)
      ∙ ap (take W)
      (holds_one m 8 (and_words (set m 8 (leads row b)) loops) (set m 8 (looped b)) (looped b) (looped b)
      (holds_and_l (set_holds m 8 (leads row b) O.few) loops_near) (set_holds m 8 (looped b) O.few) (λ x l. refl))
      ∙ first_words m W (looped b) narrow

  -- ---- the masks of each depth
  first : {ws : List ℕ} (q : ℕ → Bool) → ws ≡ set m 8 q → take W ws ≡ set m W q
  first q e = ap (take W) e ∙ first_words m W q narrow

  three-rows : (d : ℕ) (block source target : Table) (f g h : ℕ → ℕ → Bool) → RowsAre s block d f → RowsAre s source d g → RowsAre s target d h
      → join d 0 (λ k. three_rows W (get_or block k []) (get_or source k []) (get_or target k [])) ≡ join d 0 (λ k. three m W (f k) (g k) (h k))
  three-rows d block source target f g h B S T =
      join_same d 0 (λ k. three_rows W (get_or block k []) (get_or source k []) (get_or target k [])) (λ k. three m W (f k) (g k) (h k)) (λ k l.
      let k' : k < d = omega arith in
      ap₂ ◌++◌ (first (f k) (B.row k k')) (ap₂ ◌++◌ (first (g k) (S.row k k')) (first (h k) (T.row k k'))))

  two-rows : (d : ℕ) (source target : Table) (g h : ℕ → ℕ → Bool) → RowsAre s source d g → RowsAre s target d h
      → join d 0 (λ k. two_rows W (get_or source k []) (get_or target k [])) ≡ join d 0 (λ k. two m W (g k) (h k))
  two-rows d source target g h S T =
      join_same d 0 (λ k. two_rows W (get_or source k []) (get_or target k [])) (λ k. two m W (g k) (h k)) (λ k l.
      let k' : k < d = omega arith in
      ap₂ ◌++◌ (first (g k) (S.row k k')) (first (h k) (T.row k k')))

  -- THE WORDS WRITTEN
  pub written : image_words (sections_of (states s) (depth s)) row tape ≡ assemble m W (depth s) (leads row) looped (edge_set s)
  written =
      sections_same (m ∷ W ∷ depth s ∷ [])
      (join_same 256 0 (λ b. take W (letter_row row tape.length b)) (λ b. set m W (leads row b)) (λ b l. letter-row b))
      (join_same 256 0 (λ b. take W (repeat_row row tape.length loops b)) (λ b. set m W (looped b)) (λ b l. repeat-row b))
      (three-rows (depth s) (table_of tape scatter-block) (table_of tape scatter-source) (table_of tape scatter-target) (scatter_block s) (scatter_source s)
      (scatter_target s) (scatter_block_says tape s O) (scatter_source_says tape s O) (scatter_target_says tape s O))
      (three-rows (depth s) (table_of tape gather-block) (table_of tape gather-source) (table_of tape gather-target) (gather_block s) (gather_source s)
      (gather_target s) (gather_block_says tape s O) (gather_source_says tape s O) (gather_target_says tape s O))
      (three-rows (suc (depth s)) (propagate_block_table tape) (propagate_source_table tape) (propagate_target_table tape) (propagate_block s) (propagate_source s)
      (propagate_target s) (propagate_block_says tape s O) (propagate_source_says tape s O) (propagate_target_says tape s O))
      (two-rows (depth s) (table_of tape back-source) (table_of tape back-target) (back_source s) (back_target s) (back_source_says tape s O) (back_target_says tape s O))

  -- ---- and with the tree's own classes
  module _ (R : TokensOf s row tape.length) where
    letters_lead : (b x : ℕ) → b < 256 → x < states s → leads row b x ≡ letters s b x
    letters_lead b x h l = go x l ∙ letters_are s b x l ∙ sym (letters-of s b x)
      where
        go : (x : ℕ) → x < states s → leads row b x ≡ token_letters (tokens s []) b x
        go zero l = refl
        go (suc i) l =
            in-class (tokens s []) row tape.length R.long R.are i b (omega (arith, length_tokens s)) h (well_fine s (rule_well R.is_rule))

    -- THE TREE'S IMAGE
    pub image_stored : image_words (sections_of (states s) (depth s)) row tape ≡ image s
    image_stored =
        written
        ∙ assemble_same m W (depth s) (leads row) looped (letters s) (repeats s) (edge_set s) (edge_set s) letters_lead
        (λ b x h l. ap (λ (a : Bool). a && bit (value loops) x) (letters_lead b x h l) ∙ loops_say tape s O b x l) (λ w k x. refl)

pub length_image : (s : Tree) → length (image s) ≡ image_length (width (states s)) (depth s)
length_image s = length_assembled (states s) (width (states s)) (depth s) (letters s) (repeats s) (edge_set s)
