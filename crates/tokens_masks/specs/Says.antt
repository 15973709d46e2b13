-- WHAT THE PUBLIC FUNCTIONS SAY OF THE TAPE OF A RULE'S TREE, in the terms of document 01.
use Rattle.std.specs.Prelude.{◌≡◌, Option, Some, Bool, ◌&&◌, List, [], ℕ, suc, ◌≤◌, ◌<◌, get_or, replicate}
use Rattle.model.specs.Bits.{bit, mask}
use Rattle.model.specs.Edges.{depth, states}
use Rattle.model.specs.Grammar.{IsRule}
use Rattle.model.specs.Image.{back_source, back_target, gather_block, gather_source, gather_target, letters, propagate_block, propagate_source, propagate_target, repeats, scatter_block, scatter_source, scatter_target, words}
use Rattle.model.specs.Models.Apart.{any_below}
use Rattle.model.specs.Models.LayOut.{back-source, back-target, entering, gather-block, gather-source, gather-target, leaving, letter-place, loop_place, number, scatter-block, scatter-source, scatter-target}
use Rattle.model.specs.Models.Words.{value}
use Rattle.model.specs.Tree as tree
use Rattle.tokens_masks.specs.Masks.{block_plane, row_in, row_number, table_in}
use Rattle.tokens_masks.specs.Tables.{Table}
use Rattle.tokens_masks.specs.Tapes.{propagate_block_table, propagate_source_table, propagate_target_table, table_of, TapeOf}
use Rattle.tokens_masks.specs.declared.Tape.{Tape}

-- the tree of a rule, "within 512 states and depth 8", and its tape
pub record TreeOnTape (s : tree.Tree) (t : Tape) : Type 0 where
  pub rule : List ℕ
  pub is_rule : IsRule rule s
  pub few : states s ≤ 512
  pub shallow : depth s ≤ 8
  pub tape : TapeOf s t

-- a tape is told to be a tree's exactly if it is one, with the tree's depth
pub record OnTapeSays (t : Tape) (told : Option ℕ) : Type 0 where
  pub of_tree : (s : tree.Tree) → TreeOnTape s t → told ≡ Some (depth s)
  pub some_tree : (d : ℕ) → told ≡ Some d → (s : tree.Tree) × TreeOnTape s t

-- the first rows are, in eight words, the masks of sets of the tree's states, one for each depth; the rows past them are 0
pub record RowsAre (s : tree.Tree) (table : Table) (rows : ℕ) (sets : ℕ → ℕ → Bool) : Type 0 where
  pub row : (k : ℕ) → k < rows → get_or table k [] ≡ words 8 (mask (states s) (sets k))
  pub past : (k : ℕ) → rows ≤ k → k < 9 → get_or table k [] ≡ replicate 8 0

-- "for k from 0 to d-1": scatter, "for the same k" gather, and the back edges likewise
abbrev pub UnionsSay : (tree.Tree → ℕ → ℕ → Bool) → Tape → Table → Type 0
UnionsSay sets t table = (s : tree.Tree) → TreeOnTape s t → RowsAre s table (depth s) (sets s)

-- "propagate, for k from 0 to d"
abbrev pub PropagateSays : (tree.Tree → ℕ → ℕ → Bool) → Tape → Table → Type 0
PropagateSays sets t table = (s : tree.Tree) → TreeOnTape s t → RowsAre s table (suc (depth s)) (sets s)

-- the states that a letter leads to, with any byte
abbrev pub LettersSay : Tape → List ℕ → Type 0
LettersSay t row = (s : tree.Tree) → TreeOnTape s t → row ≡ words 8 (mask (states s) (λ x. any_below 256 (λ b. letters s b x)))

-- "repeats: likewise, the bit of each loop": of the states that a byte's letters lead to, those with a loop
abbrev pub LoopsSay : Tape → List ℕ → Type 0
LoopsSay t row = (s : tree.Tree) → TreeOnTape s t → (b x : ℕ) → x < states s → (letters s b x && bit (value row) x) ≡ repeats s b x

-- LAY OUT SAYS, of the words of all masks, plane by plane: what it computes. Propagate's sources and targets stand where the states were that its edges leave
-- and enter.
pub record Laid (t : Tape) (ms : List ℕ) : Type 0 where
  pub letter-places : row_in ms (row_number 0 (number letter-place)) ≡ get_or (table_of t letter-place) 0 []
  pub loop_places : row_in ms (row_number 0 (number loop_place)) ≡ get_or (table_of t loop_place) 0 []
  pub scatter_blocks : table_in ms (number scatter-block) ≡ table_of t scatter-block
  pub scatter_sources : table_in ms (number scatter-source) ≡ table_of t scatter-source
  pub scatter_targets : table_in ms (number scatter-target) ≡ table_of t scatter-target
  pub gather_blocks : table_in ms (number gather-block) ≡ table_of t gather-block
  pub gather_sources : table_in ms (number gather-source) ≡ table_of t gather-source
  pub gather_targets : table_in ms (number gather-target) ≡ table_of t gather-target
  pub propagate_blocks : table_in ms block_plane ≡ propagate_block_table t
  pub propagate_sources : table_in ms (number leaving) ≡ propagate_source_table t
  pub propagate_targets : table_in ms (number entering) ≡ propagate_target_table t
  pub back_sources : table_in ms (number back-source) ≡ table_of t back-source
  pub back_targets : table_in ms (number back-target) ≡ table_of t back-target

-- and, of the tape of a rule's tree, that it is what documents 01 and 02 put there
pub record MasksSay (t : Tape) (ms : List ℕ) : Type 0 where
  pub letter-places : LettersSay t (row_in ms (row_number 0 (number letter-place)))
  pub loop_places : LoopsSay t (row_in ms (row_number 0 (number loop_place)))
  pub scatter_blocks : UnionsSay scatter_block t (table_in ms (number scatter-block))
  pub scatter_sources : UnionsSay scatter_source t (table_in ms (number scatter-source))
  pub scatter_targets : UnionsSay scatter_target t (table_in ms (number scatter-target))
  pub gather_blocks : UnionsSay gather_block t (table_in ms (number gather-block))
  pub gather_sources : UnionsSay gather_source t (table_in ms (number gather-source))
  pub gather_targets : UnionsSay gather_target t (table_in ms (number gather-target))
  pub propagate_blocks : PropagateSays propagate_block t (table_in ms block_plane)
  pub propagate_sources : PropagateSays propagate_source t (table_in ms (number leaving))
  pub propagate_targets : PropagateSays propagate_target t (table_in ms (number entering))
  pub back_sources : UnionsSay back_source t (table_in ms (number back-source))
  pub back_targets : UnionsSay back_target t (table_in ms (number back-target))
