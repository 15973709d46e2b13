-- THE MASKS OF A RULE OF AT MOST 64 STATES: each is one word, as it lies in the image.
use Rattle.std.specs.Prelude.{◌≡◌, ℕ, zero, suc, ◌+◌, ◌-◌, ◌*◌, ◌/◌, ◌%◌, ◌<◌, ◌≤◌, Bool, false, cond, List, [], ◌∷◌, ◌==◌, nat_lt, slice_index, slice_index_or}
use Rattle.model.specs.Models.Sections.{back_at, depth_word, gather_at, letter_place, propagate_at, repeat_place, scatter_at, three_place, two_place}
use Rattle.model.specs.Models.Run.{close_words, fall_words, Masks, pass_words, propagate_by, returns_words, rise_words}
use Rattle.model.specs.Models.Words.{wrap_add, wrap_sub}

-- word i as a row of one
abbrev pub word_at : List ℕ → ℕ → List ℕ
word_at ws i = slice_index ws i ∷ []

-- the masks where they lie in an image of one word to a mask
abbrev pub one_masks : List ℕ → Masks
one_masks ws = record {
  letter_mask = λ b. word_at ws (letter_place 1 b);
  loop_mask = λ b. word_at ws (repeat_place 1 b);
  scatter_mask = λ k j. word_at ws (three_place (scatter_at 1) 1 k j);
  gather_mask = λ k j. word_at ws (three_place (gather_at 1 (depth_word ws)) 1 k j);
  propagate_mask = λ k j. word_at ws (three_place (propagate_at 1 (depth_word ws)) 1 k j);
  back_mask = λ k j. word_at ws (two_place (back_at 1 (depth_word ws)) 1 k j);
  start_mask = 1 ∷ [];
}

-- ---- THE MASKS IN WORK: nine words to a depth k. First the scatter and the gather masks of the unions whose alternatives lie at depth k, then the
-- propagate masks of depth k, the source less one
abbrev pub of_nine : {A : Type 0} → ℕ → (scatter gather less propagate : A) → A
of_nine j scatter gather less propagate = cond (nat_lt j 3) scatter (cond (nat_lt j 6) gather (cond (j == 7) less propagate))

abbrev pub entry_at : List ℕ → (d k j : ℕ) → ℕ
entry_at ws d k j =
    let high = slice_index_or ws (propagate_at 1 d + 3 * k + j - 6) 0 in
    of_nine j (slice_index ws (scatter_at 1 + 3 * k + j - 3)) (slice_index ws (gather_at 1 d + 3 * k + j - 6)) (wrap_sub high 1) high

abbrev pub Entered : List ℕ → ℕ → List ℕ → Type 0
Entered ws d table = (i : ℕ) → i < 9 * (d + 1) → slice_index table i ≡ entry_at ws d (i / 9) (i % 9)

-- a depth's block, source and target, each as a row of one
abbrev pub three : (block source target : ℕ) → ℕ → List ℕ
three block source target zero = block ∷ []
three block source target (suc zero) = source ∷ []
three block source target (suc (suc j)) = target ∷ []

-- a depth's propagate masks: a rule without any chain has no block, whatever stands in the table
abbrev pub chain : (any : Bool) (block below target : ℕ) → ℕ → List ℕ
chain any block below target = three (cond any block 0) (wrap_add below 1) target

abbrev pub chains : (any : Bool) (block below target : ℕ) → List ℕ → ℕ → ℕ → List ℕ
chains any block below target table zero = chain any block below target
chains any block below target table (suc k) =
    chain any (slice_index table (9 * suc k + 6)) (slice_index table (9 * suc k + 7)) (slice_index table (9 * suc k + 8))

-- letters and repeats where they lie, the masks of depth 0 as numbers, those of the other depths in the table, and the back edges' two of each depth one
-- after another; a rule without a back edge has none, that is zeros
abbrev pub table_masks : List ℕ → (any : Bool) (block below target : ℕ) → (table backs : List ℕ) → Masks
table_masks ws any block below target table backs = record {
  letter_mask = λ b. word_at ws (letter_place 1 b);
  loop_mask = λ b. word_at ws (repeat_place 1 b);
  scatter_mask = λ k. three (slice_index table (9 * suc k)) (slice_index table (9 * suc k + 1)) (slice_index table (9 * suc k + 2));
  gather_mask = λ k. three (slice_index table (9 * suc k + 3)) (slice_index table (9 * suc k + 4)) (slice_index table (9 * suc k + 5));
  propagate_mask = chains any block below target table;
  back_mask = λ k j. word_at backs (2 * k + j);
  start_mask = 1 ∷ [];
}

-- all of them as the code holds them
abbrev pub work_masks : List ℕ → (any : Bool) → (table backs : List ℕ) → Masks
work_masks ws any table backs = table_masks ws any (slice_index table 6) (slice_index table 7) (slice_index table 8) table backs

-- whether there is any chain: where not, every block up to depth d is empty
abbrev pub NoChain : List ℕ → ℕ → Bool → Type 0
NoChain table d any = any ≡ false → (k : ℕ) → k ≤ d → slice_index table (9 * k + 6) ≡ 0

-- the back edges' masks of the depths below d, as they lie; and whether there is any back edge
abbrev pub Backs : List ℕ → ℕ → List ℕ → Type 0
Backs ws d backs = (i : ℕ) → i < 2 * d → slice_index backs i ≡ slice_index ws (back_at 1 d + i)

abbrev pub NoBack : List ℕ → ℕ → Bool → Type 0
NoBack backs d any = any ≡ false → (i : ℕ) → i < 2 * d → slice_index backs i ≡ 0

-- THE WAY UP to depth 0's own chains, which come after it, and THE WAY DOWN: neither looks at the letters, at the chains of depth 0 nor at back edges
abbrev pub Risen : (any : Bool) → List ℕ → (d live r : ℕ) → Type 0
Risen any table d live r =
    (ws backs : List ℕ) (block below target : ℕ) → let M = table_masks ws any block below target table backs in propagate_by M 0 (r ∷ []) ≡ rise_words M d (live ∷ [])

abbrev pub Fallen : (any : Bool) → List ℕ → (d live r : ℕ) → Type 0
Fallen any table d live r =
    (ws backs : List ℕ) (block below target : ℕ) → r ∷ [] ≡ fall_words (table_masks ws any block below target table backs) d 0 (live ∷ [])

-- both: letters and back edges do not matter
abbrev pub Passed : (any : Bool) (block below target : ℕ) → List ℕ → (d live r : ℕ) → Type 0
Passed any block below target table d live r =
    (ws backs : List ℕ) → r ∷ [] ≡ pass_words (table_masks ws any block below target table backs) d (live ∷ [])

-- WHAT THE BACK EDGES ADD to live states, and the two rounds: neither looks at the letters, nor the first at the masks of the passes
abbrev pub Returned : List ℕ → (d live r : ℕ) → Type 0
Returned backs d live r =
    (ws : List ℕ) (any : Bool) (block below target : ℕ) (table : List ℕ) → r ∷ [] ≡ returns_words (table_masks ws any block below target table backs) d (live ∷ []) (live ∷ [])

abbrev pub Closed : (any : Bool) → (table backs : List ℕ) → (d live r : ℕ) → Type 0
Closed any table backs d live r = (ws : List ℕ) → r ∷ [] ≡ close_words (work_masks ws any table backs) d (live ∷ [])
