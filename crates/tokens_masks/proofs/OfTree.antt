-- THE TABLES OF A TREE'S TAPE, in document 01's terms: row k of each is, in eight words, the mask of the tree's states that document 01 puts into
-- that mask of depth k; rows past the tree's depth are 0. And a tape of a tree within 512 states and depth 8 is told to be one.
use mathlib.Core.Path.{◌≡◌, refl, sym, ap, ap₂, ◌∙◌, subst}
use mathlib.Core.Bool.{Bool, false, ◌&&◌, ◌||◌, cond, not}
use mathlib.Core.List.{List, []}
use Prim.Native.Nat.{ℕ, zero, suc, ◌+◌, ◌*◌, ◌≤◌, ◌<◌}
use native.Mathlib.Omega.{arith}
use lib.Dec.{T, le→leb, leb}
use lib.ListN.{get_or, length, replicate}
use Rattle.std.specs.Prelude.{None, Some}
use Rattle.model.specs.Bits.{bit, digit, mask}
use Rattle.model.specs.Edges.{depth, states}
use Rattle.model.specs.Image.{back_source, back_target, gather_block, gather_source, gather_target, letters, propagate_block, propagate_source, propagate_target, repeats, scatter_block, scatter_source, scatter_target, words}
use Rattle.model.specs.Models.Apart.{any_below}
use Rattle.model.specs.Models.LayOut.{back-source, back-target, begin, block_of, entering, gather-block, gather-source, gather-target, lay_out, leaving, letter-place, loop_place, number, reach, scatter-block, scatter-source, scatter-target, set, source_of, target_of, token_letters, valid, Plane}
use Rattle.model.specs.Models.Tokens.{Token, tokens}
use Rattle.model.specs.Models.Words.{value}
use Rattle.model.specs.Tree as tree
use Rattle.model.proofs.Image.Classes.{AllFine}
use Rattle.model.proofs.Image.Depth.{reach_is}
use Rattle.model.proofs.Image.LetterPlaces.{or_is_places, repeats_by_letters}
use Rattle.model.proofs.Image.OfEdges.{edge_sets, edge_set, letters-of, repeats-of}
use Rattle.model.proofs.Image.Places.{tree_sets}
use Rattle.model.proofs.Image.Rows.{set_bit, set_same}
use Rattle.model.proofs.Image.Shown.{letters_are, loops_are}
use Rattle.model.proofs.Image.Tokens.{length_tokens}
use Rattle.model.proofs.Image.Unions.{GoodUnions}
use Rattle.model.proofs.Image.Valid.{good_valid}
use Rattle.model.proofs.Image.WellFormed.{well_formed}
use Rattle.model.proofs.Laws.Bits.{below_same}
use Rattle.model.proofs.Laws.Bool.{and_both, is_not, is_true}
use Rattle.model.proofs.Laws.Trees.{NonEmpty}
use Rattle.model.proofs.Reading.WellFormed.{rule_well}
use Rattle.tokens_masks.specs.Joins.{Either, join_tables, Only}
use Rattle.tokens_masks.specs.Masks.{block_plane, Joined, row_in, row_number, table_in}
use Rattle.tokens_masks.specs.Says.{Laid, LettersSay, LoopsSay, MasksSay, PropagateSays, TreeOnTape, UnionsSay}
use Rattle.tokens_masks.specs.Tables.{Table}
use Rattle.tokens_masks.specs.Tapes.{bares, is_tree, on_tape, PlanesHold, propagate_block_table, propagate_source_table, propagate_target_table, table_of, tokens_of}
use Rattle.tokens_masks.specs.declared.Tape.{Tape}
use Rattle.tokens_masks.proofs.Bare.{bares_lay, bares_length, bares_reach, bares_valid}
use Rattle.tokens_masks.proofs.Deep.{deep, of_union}
use Rattle.tokens_masks.proofs.InWords.{table_row}
use Rattle.tokens_masks.proofs.Painted.{propagate_block_is, propagate_source_is, propagate_target_is, row_is}

-- no state
none_zero : (m : ℕ) → mask m (λ x. false) ≡ 0
none_zero zero = refl
none_zero (suc m) = ap (λ (n : ℕ). digit false + 2 * n) (none_zero m)

none_words : (m : ℕ) (f : ℕ → Bool) → ((x : ℕ) → f x ≡ false) → set m 8 f ≡ replicate 8 0
none_words m f h = set_same m 8 f (λ x. false) (λ x l. h x) ∙ ap (words 8) (none_zero m)

module _ (s : tree.Tree) (t : Tape) (O : TreeOnTape s t) where
  good : NonEmpty s × GoodUnions s × AllFine (tokens s [])
  good = (well_formed s).0 (rule_well O.is_rule)

  tokens_are : tokens_of t ≡ bares (tokens s [])
  tokens_are = O.tape.tokens_are

  states_are : suc (length (tokens_of t)) ≡ states s
  states_are = ap suc (ap length tokens_are ∙ bares_length (tokens s []) ∙ length_tokens s)

  -- IT IS A TREE'S TAPE, and the tree's depth is known
  pub is-tree : T (is_tree t)
  is-tree =
      and_both (leb t.length 511) (valid (tokens_of t) begin)
      (le→leb t.length 511 (omega (arith, O.tape.long, length_tokens s, O.few)))
      (subst T (sym (ap (λ (l : List Token). valid l begin) tokens_are ∙ bares_valid (tokens s []) begin)) (good_valid s good.0 good.1 O.shallow))

  pub on_tape_is : on_tape t ≡ Some (depth s)
  on_tape_is =
      ap₂ (λ (b : Bool) (n : ℕ). cond b (Some n) None) (is_true (is_tree t) is-tree)
      (ap (λ (l : List Token). reach l begin) tokens_are ∙ bares_reach (tokens s []) begin ∙ reach_is s)

  -- ---- what is laid out for the tree's own tokens
  abbrev laid : Plane → ℕ → ℕ → Bool
  laid = lay_out (tokens s []) begin

  laid_is : (w : Plane) (k x : ℕ) → lay_out (tokens_of t) begin w k x ≡ laid w k x
  laid_is w k x = ap (λ (l : List Token). lay_out l begin w k x) tokens_are ∙ bares_lay (tokens s []) begin w k x

  as_states : (f g : ℕ → Bool) → ((x : ℕ) → x < states s → f x ≡ g x) → set (suc (length (tokens_of t))) 8 f ≡ set (states s) 8 g
  as_states f g h = ap (λ (m : ℕ). set m 8 f) states_are ∙ set_same (states s) 8 f g h

  -- row k of the table of any plane; letter and loop places have row 0
  pub laid_row : (w : Plane) (k : ℕ) → k < 9 → get_or (table_of t w) k [] ≡ words 8 (mask (states s) (laid w k))
  laid_row w k h = row_is t is-tree w k h ∙ as_states (lay_out (tokens_of t) begin w k) (laid w k) (λ x l. laid_is w k x)

  is_set : (w : Plane) (k x : ℕ) → laid w k x ≡ edge_set s w k x
  is_set w k x = tree_sets s w k x ∙ sym (edge_sets s w k x)

  row_as : (w : Plane) (k : ℕ) (f : ℕ → Bool) → k < 9 → ((x : ℕ) → x < states s → laid w k x ≡ f x) → get_or (table_of t w) k [] ≡ words 8 (mask (states s) f)
  row_as w k f h e = laid_row w k h ∙ set_same (states s) 8 (laid w k) f e

  -- ---- SCATTER AND GATHER, AND BACK EDGES
  module _ (k : ℕ) (h : k < depth s) where
    nine : k < 9
    nine = omega (arith, O.shallow)

    scatter_block_row : get_or (table_of t scatter-block) k [] ≡ words 8 (mask (states s) (scatter_block s k))
    scatter_block_row = row_as scatter-block k (scatter_block s k) nine (λ x l. is_set scatter-block k x)

    scatter_source_row : get_or (table_of t scatter-source) k [] ≡ words 8 (mask (states s) (scatter_source s k))
    scatter_source_row = row_as scatter-source k (scatter_source s k) nine (λ x l. is_set scatter-source k x)

    scatter_target_row : get_or (table_of t scatter-target) k [] ≡ words 8 (mask (states s) (scatter_target s k))
    scatter_target_row = row_as scatter-target k (scatter_target s k) nine (λ x l. is_set scatter-target k x)

    gather_block_row : get_or (table_of t gather-block) k [] ≡ words 8 (mask (states s) (gather_block s k))
    gather_block_row = row_as gather-block k (gather_block s k) nine (λ x l. is_set gather-block k x)

    gather_source_row : get_or (table_of t gather-source) k [] ≡ words 8 (mask (states s) (gather_source s k))
    gather_source_row = row_as gather-source k (gather_source s k) nine (λ x l. is_set gather-source k x)

    gather_target_row : get_or (table_of t gather-target) k [] ≡ words 8 (mask (states s) (gather_target s k))
    gather_target_row = row_as gather-target k (gather_target s k) nine (λ x l. is_set gather-target k x)

    back_source_row : get_or (table_of t back-source) k [] ≡ words 8 (mask (states s) (back_source s k))
    back_source_row = row_as back-source k (back_source s k) nine (λ x l. is_set back-source k x)

    back_target_row : get_or (table_of t back-target) k [] ≡ words 8 (mask (states s) (back_target s k))
    back_target_row = row_as back-target k (back_target s k) nine (λ x l. is_set back-target k x)

  -- ---- PROPAGATE
  module _ (k : ℕ) (h : k < suc (depth s)) where
    nine_too : k < 9
    nine_too = omega (arith, O.shallow)

    propagate_block_row : get_or (propagate_block_table t) k [] ≡ words 8 (mask (states s) (propagate_block s k))
    propagate_block_row =
        propagate_block_is t is-tree k nine_too
        ∙ as_states (block_of (lay_out (tokens_of t) begin) k) (propagate_block s k)
        (λ x l. ap₂ ◌||◌ (laid_is leaving k x ∙ is_set leaving k x) (laid_is entering k x ∙ is_set entering k x))

    propagate_source_row : get_or (propagate_source_table t) k [] ≡ words 8 (mask (states s) (propagate_source s k))
    propagate_source_row =
        propagate_source_is t is-tree k nine_too
        ∙ as_states (source_of (lay_out (tokens_of t) begin) k) (propagate_source s k)
        (λ x l. ap₂ (λ (a b : Bool). a && not b) (laid_is leaving k x ∙ is_set leaving k x) (laid_is entering k x ∙ is_set entering k x))

    propagate_target_row : get_or (propagate_target_table t) k [] ≡ words 8 (mask (states s) (propagate_target s k))
    propagate_target_row =
        propagate_target_is t is-tree k nine_too
        ∙ as_states (target_of (lay_out (tokens_of t) begin) k) (propagate_target s k)
        (λ x l. ap₂ (λ (a b : Bool). a && not b) (laid_is entering k x ∙ is_set entering k x) (laid_is leaving k x ∙ is_set leaving k x))

  -- ---- ROWS PAST THE DEPTH ARE 0
  module _ (k : ℕ) (h : k < 9) where
    union_row_past : (w : Plane) → T (of_union w) → depth s ≤ k → get_or (table_of t w) k [] ≡ replicate 8 0
    union_row_past w u p =
        laid_row w k h
        ∙ none_words (states s) (laid w k) (λ x. is_not (laid w k x) (λ m. omega (arith, (deep k x (tokens s []) begin w m).1 u, reach_is s)))

    module _ (p : depth s < k) where
      nothing : (w : Plane) (x : ℕ) → lay_out (tokens_of t) begin w k x ≡ false
      nothing w x = laid_is w k x ∙ is_not (laid w k x) (λ m. omega (arith, (deep k x (tokens s []) begin w m).0, reach_is s))

      propagate_block_past : get_or (propagate_block_table t) k [] ≡ replicate 8 0
      propagate_block_past =
          propagate_block_is t is-tree k h
          ∙ none_words (suc (length (tokens_of t))) (block_of (lay_out (tokens_of t) begin) k) (λ x. ap₂ ◌||◌ (nothing leaving x) (nothing entering x))

      propagate_source_past : get_or (propagate_source_table t) k [] ≡ replicate 8 0
      propagate_source_past =
          propagate_source_is t is-tree k h
          ∙ none_words (suc (length (tokens_of t))) (source_of (lay_out (tokens_of t) begin) k)
          (λ x. ap₂ (λ (a b : Bool). a && not b) (nothing leaving x) (nothing entering x))

      propagate_target_past : get_or (propagate_target_table t) k [] ≡ replicate 8 0
      propagate_target_past =
          propagate_target_is t is-tree k h
          ∙ none_words (suc (length (tokens_of t))) (target_of (lay_out (tokens_of t) begin) k)
          (λ x. ap₂ (λ (a b : Bool). a && not b) (nothing entering x) (nothing leaving x))

  -- ---- LETTERS AND LOOPS
  within : (x : ℕ) → x < states s → x < suc (length (tokens s []))
  within x h = omega (arith, length_tokens s)

  letter_token : (b x : ℕ) → x < states s → token_letters (tokens s []) b x ≡ letters s b x
  letter_token b x h = letters_are s b x h ∙ sym (letters-of s b x)

  letters_row : get_or (table_of t letter-place) 0 [] ≡ words 8 (mask (states s) (λ x. any_below 256 (λ b. letters s b x)))
  letters_row =
      row_as letter-place 0 (λ x. any_below 256 (λ b. letters s b x)) (omega arith)
      (λ x h. sym (or_is_places (tokens s []) good.2 x (within x h))
      ∙ below_same 256 (λ b. token_letters (tokens s []) b x) (λ b. letters s b x) (λ b l. letter_token b x h))

  loop_bit : (x : ℕ) → x < states s → bit (value (get_or (table_of t loop_place) 0 [])) x ≡ laid loop_place 0 x
  loop_bit x h = ap (λ (ws : List ℕ). bit (value ws) x) (laid_row loop_place 0 (omega arith)) ∙ set_bit (states s) 8 (laid loop_place 0) (omega (arith, O.few)) x h

  loops_row : (b x : ℕ) → x < states s → (letters s b x && bit (value (get_or (table_of t loop_place) 0 [])) x) ≡ repeats s b x
  loops_row b x h =
      ap₂ ◌&&◌ (sym (letter_token b x h)) (loop_bit x h)
      ∙ repeats_by_letters (tokens s []) b x (within x h)
      ∙ loops_are s b x h
      ∙ sym (repeats-of s b x)

-- ---- WHAT THE PUBLIC FUNCTIONS SAY
pub scatter_block_says : (t : Tape) → UnionsSay scatter_block t (table_of t scatter-block)
scatter_block_says t s O = record { row = scatter_block_row s t O; past = λ k p h. union_row_past s t O k h scatter-block tt p }

pub scatter_source_says : (t : Tape) → UnionsSay scatter_source t (table_of t scatter-source)
scatter_source_says t s O = record { row = scatter_source_row s t O; past = λ k p h. union_row_past s t O k h scatter-source tt p }

pub scatter_target_says : (t : Tape) → UnionsSay scatter_target t (table_of t scatter-target)
scatter_target_says t s O = record { row = scatter_target_row s t O; past = λ k p h. union_row_past s t O k h scatter-target tt p }

pub gather_block_says : (t : Tape) → UnionsSay gather_block t (table_of t gather-block)
gather_block_says t s O = record { row = gather_block_row s t O; past = λ k p h. union_row_past s t O k h gather-block tt p }

pub gather_source_says : (t : Tape) → UnionsSay gather_source t (table_of t gather-source)
gather_source_says t s O = record { row = gather_source_row s t O; past = λ k p h. union_row_past s t O k h gather-source tt p }

pub gather_target_says : (t : Tape) → UnionsSay gather_target t (table_of t gather-target)
gather_target_says t s O = record { row = gather_target_row s t O; past = λ k p h. union_row_past s t O k h gather-target tt p }

pub back_source_says : (t : Tape) → UnionsSay back_source t (table_of t back-source)
back_source_says t s O = record { row = back_source_row s t O; past = λ k p h. union_row_past s t O k h back-source tt p }

pub back_target_says : (t : Tape) → UnionsSay back_target t (table_of t back-target)
back_target_says t s O = record { row = back_target_row s t O; past = λ k p h. union_row_past s t O k h back-target tt p }

pub propagate_block_says : (t : Tape) → PropagateSays propagate_block t (propagate_block_table t)
propagate_block_says t s O = record { row = propagate_block_row s t O; past = λ k p h. propagate_block_past s t O k h p }

pub propagate_source_says : (t : Tape) → PropagateSays propagate_source t (propagate_source_table t)
propagate_source_says t s O = record { row = propagate_source_row s t O; past = λ k p h. propagate_source_past s t O k h p }

pub propagate_target_says : (t : Tape) → PropagateSays propagate_target t (propagate_target_table t)
propagate_target_says t s O = record { row = propagate_target_row s t O; past = λ k p h. propagate_target_past s t O k h p }

letters_say : (t : Tape) → LettersSay t (get_or (table_of t letter-place) 0 [])
letters_say t s O = letters_row s t O

pub loops_say : (t : Tape) → LoopsSay t (get_or (table_of t loop_place) 0 [])
loops_say t s O = loops_row s t O

-- LAY OUT: the words hold what is laid out, and that is what document 01 puts there
pub laid_of : {t : Tape} {ms ms' : List ℕ} → PlanesHold t ms → Joined ms ms' → Laid t ms'
laid_of {t} {ms} {ms'} K J = record {
  letter-places = first letter-place (below letter-place (omega arith));
  loop_places = first loop_place (below loop_place (omega arith));
  scatter_blocks = below scatter-block (omega arith);
  scatter_sources = below scatter-source (omega arith);
  scatter_targets = below scatter-target (omega arith);
  gather_blocks = below gather-block (omega arith);
  gather_sources = below gather-source (omega arith);
  gather_targets = below gather-target (omega arith);
  propagate_blocks = J.block ∙ ap₂ (join_tables Either) (K leaving) (K entering);
  propagate_sources = J.source ∙ ap₂ (join_tables Only) (K leaving) (K entering);
  propagate_targets = J.target ∙ ap₂ (join_tables Only) (K entering) (K leaving);
  back_sources = J.above (number back-source) (omega arith) (omega arith) ∙ K back-source;
  back_targets = J.above (number back-target) (omega arith) (omega arith) ∙ K back-target;
}
  where
    below : (w : Plane) → number w < block_plane → table_in ms' (number w) ≡ table_of t w
    below w h = J.below (number w) h ∙ K w

    -- row 0 of a table
    first : (w : Plane) → table_in ms' (number w) ≡ table_of t w → row_in ms' (row_number 0 (number w)) ≡ get_or (table_of t w) 0 []
    first w e = sym (table_row ms' (number w) 0 (omega arith)) ∙ ap (λ (a : Table). get_or a 0 []) e

pub masks_say : {t : Tape} {ms : List ℕ} → Laid t ms → MasksSay t ms
masks_say {t} L = record {
  letter-places = subst (LettersSay t) (sym L.letter-places) (letters_say t);
  loop_places = subst (LoopsSay t) (sym L.loop_places) (loops_say t);
  scatter_blocks = subst (UnionsSay scatter_block t) (sym L.scatter_blocks) (scatter_block_says t);
  scatter_sources = subst (UnionsSay scatter_source t) (sym L.scatter_sources) (scatter_source_says t);
  scatter_targets = subst (UnionsSay scatter_target t) (sym L.scatter_targets) (scatter_target_says t);
  gather_blocks = subst (UnionsSay gather_block t) (sym L.gather_blocks) (gather_block_says t);
  gather_sources = subst (UnionsSay gather_source t) (sym L.gather_sources) (gather_source_says t);
  gather_targets = subst (UnionsSay gather_target t) (sym L.gather_targets) (gather_target_says t);
  propagate_blocks = subst (PropagateSays propagate_block t) (sym L.propagate_blocks) (propagate_block_says t);
  propagate_sources = subst (PropagateSays propagate_source t) (sym L.propagate_sources) (propagate_source_says t);
  propagate_targets = subst (PropagateSays propagate_target t) (sym L.propagate_targets) (propagate_target_says t);
  back_sources = subst (UnionsSay back_source t) (sym L.back_sources) (back_source_says t);
  back_targets = subst (UnionsSay back_target t) (sym L.back_targets) (back_target_says t);
}
