-- What is painted for a valid row of tokens is what lay out marks: row k of each table is the mask, in eight words, of the states marked at depth k.
use mathlib.Core.Path.{◌≡◌, refl, sym, ap, ◌∙◌, subst}
use mathlib.Core.Bool.{Bool, ◌||◌, cond, or_assoc, or-false}
use mathlib.Core.List.{List, [], ◌∷◌}
use Prim.Native.Nat.{ℕ, suc, ◌+◌, ◌-◌, ◌^◌, ◌≤◌, ◌<◌}
use native.Mathlib.Omega.{arith}
use lib.Bits.{bit_and}
use lib.Dec.{T, leb, leb→le}
use lib.ListN.{get_or, length, length-take, take}
use Rattle.model.specs.Models.LayOut.{begin, block_of, check, entering, lay_out, leaving, mark, Scan, set, source_of, step, strokes, target_of, valid, Plane}
use Rattle.model.specs.Models.Tokens.{Token}
use Rattle.model.specs.Models.Words.{and_words, each_word, not_words}
use Rattle.model.proofs.Image.LetterPlaces.{position_step}
use Rattle.model.proofs.Image.Rows.{wide}
use Rattle.model.proofs.Image.SameBits.{holds_one}
use Rattle.model.proofs.Image.Tokens.{length_tokens}
use Rattle.model.proofs.Image.Unions.{good_full}
use Rattle.model.proofs.Image.Valid.{valid_tree}
use Rattle.model.proofs.Image.Within.{lay_low}
use Rattle.model.proofs.Laws.Bool.{and_split, is_not, is_true}
use Rattle.model.proofs.Words.Holds.{Holds, set_holds}
use Rattle.model.proofs.Words.Operations.{holds_and_l, holds_or, near_not}
use Rattle.tokens_masks.specs.Joins.{Either, join_tables, join_word, Only}
use Rattle.tokens.specs.Scans.{Sane}
use Rattle.tokens_masks.specs.Tables.{blank, paint_all, paint_plane, Table}
use Rattle.tokens_masks.specs.Tapes.{is_tree, propagate_block_table, propagate_source_table, propagate_target_table, table_of, tokens_of}
use Rattle.tokens_masks.specs.declared.Tape.{Tape}
use Rattle.tokens_masks.proofs.Joins.{joined_at}
use Rattle.tokens.proofs.Sane.{sane_begin, sane_step}
use Rattle.tokens_masks.proofs.TableBits.{Adds, bit_at, blank_bit, blank_rows, plane_adds, Rows}
use Rattle.tokens_masks.proofs.Tokens.{read_length}
use Rattle.tokens_masks.proofs.Within.{strokes_within}

-- ---- all tokens
paint-all : (l : List Token) (q : Scan) (w : Plane) (a : Table) → Rows a → Sane q → q.position + length l ≤ 511 → T (valid l q)
    → Adds a (paint_all l q w a) (lay_out l q w)
paint-all [] q w a R S h v = record { rows = R; bits = λ k x. sym (or-false (bit_at a k x)) }
paint-all (y ∷ ys) q w a R S h v =
    let c = and_split (check y q) (valid ys (step y q)) v in
    let A = plane_adds w (strokes y q) a R (strokes_within y q S (omega arith)) in
    let B = paint-all ys (step y q) w (paint_plane w (strokes y q) a) A.rows (sane_step y q S c.0) (omega (arith, position_step y q)) c.1 in
    record {
      rows = B.rows;
      bits = λ k x. B.bits k x
          ∙ ap (λ (b : Bool). b || lay_out ys (step y q) w k x) (A.bits k x)
          ∙ or_assoc (bit_at a k x) (mark y q w k x) (lay_out ys (step y q) w k x);
    }

module _ (l : List Token) (short : length l ≤ 511) (v : T (valid l begin)) where
  painted : (w : Plane) → Adds blank (paint_all l begin w blank) (lay_out l begin w)
  painted w = paint-all l begin w blank blank_rows sane_begin (omega arith) v

  -- no state past the last
  low : (w : Plane) (k x : ℕ) → T (lay_out l begin w k x) → x ≤ length l
  low w k x t =
      let s = valid_tree l v in
      omega (
        arith,
        lay_low s.tree (good_full s.tree s.good) w k x (subst (λ (m : List Token). T (lay_out m begin w k x)) (sym s.of_tokens) t),
        length_tokens s.tree,
        ap length s.of_tokens,
      )

  row_holds : (w : Plane) (k : ℕ) → k < 9 → Holds (suc (length l)) 8 (get_or (paint_all l begin w blank) k []) (lay_out l begin w k)
  row_holds w k h = record {
    near = record { len = ((painted w).rows.row k h).0; fit = ((painted w).rows.row k h).1; bits = λ x g. same x };
    none = λ x g. same x ∙ is_not (lay_out l begin w k x) (λ t. past x g (low w k x t));
  }
    where
      same : (x : ℕ) → bit_at (paint_all l begin w blank) k x ≡ lay_out l begin w k x
      same x = (painted w).bits k x ∙ ap (λ (b : Bool). b || lay_out l begin w k x) (blank_bit k x h)

      past : (x : ℕ) → suc (length l) ≤ x → x ≤ length l → ⊥
      past x g e = omega arith

-- words that hold a set are the words of its mask
holds_set : (m : ℕ) (xs : List ℕ) (f : ℕ → Bool) → m ≤ 512 → Holds m 8 xs f → xs ≡ set m 8 f
holds_set m xs f h H = holds_one m 8 xs (set m 8 f) f f H (set_holds m 8 f h) (λ x g. refl)

only_is : (xs ys : List ℕ) → each_word (join_word Only) xs ys ≡ and_words xs (not_words ys)
only_is [] ys = refl
only_is (x ∷ xs) [] = refl
only_is (x ∷ xs) (y ∷ ys) = ap (λ (r : List ℕ). bit_and x (2 ^ 64 - 1 - y) ∷ r) (only_is xs ys)

-- ---- the tables of a tape that is a tree's
module _ (t : Tape) (i : T (is_tree t)) where
  abbrev l : List Token
  l = tokens_of t

  valid_tokens : T (valid l begin)
  valid_tokens = (and_split (leb t.length 511) (valid l begin) i).1

  few_tokens : length l ≤ 511
  few_tokens =
      omega (
        arith,
        leb→le t.length 511 (and_split (leb t.length 511) (valid l begin) i).0,
        read_length (take t.length t.kinds),
        length-take t.length t.kinds,
      )

  table_is : (w : Plane) → table_of t w ≡ paint_all l begin w blank
  table_is w = ap (λ (b : Bool). cond b (paint_all l begin w blank) blank) (is_true (is_tree t) i)

  table_holds : (w : Plane) (k : ℕ) → k < 9 → Holds (suc (length l)) 8 (get_or (table_of t w) k []) (lay_out l begin w k)
  table_holds w k h =
      subst (λ (a : Table). Holds (suc (length l)) 8 (get_or a k []) (lay_out l begin w k)) (sym (table_is w)) (row_holds l few_tokens valid_tokens w k h)

  table_long : (w : Plane) → length (table_of t w) ≡ 9
  table_long w = ap length (table_is w) ∙ (painted l few_tokens valid_tokens w).rows.nine

  -- ROW k OF A TABLE
  pub row_is : (w : Plane) (k : ℕ) → k < 9 → get_or (table_of t w) k [] ≡ set (suc (length l)) 8 (lay_out l begin w k)
  row_is w k h = holds_set (suc (length l)) (get_or (table_of t w) k []) (lay_out l begin w k) (omega (arith, few_tokens)) (table_holds w k h)

  both_long : (u w : Plane) → length (table_of t u) ≡ length (table_of t w)
  both_long u w = table_long u ∙ sym (table_long w)

  -- ROW k OF PROPAGATE'S TABLES
  pub propagate_block_is : (k : ℕ) → k < 9 → get_or (propagate_block_table t) k [] ≡ set (suc (length l)) 8 (block_of (lay_out l begin) k)
  propagate_block_is k h =
      sym (joined_at Either (table_of t leaving) (table_of t entering) k (both_long leaving entering) (omega (arith, table_long leaving)))
      ∙ holds_set (suc (length l)) _ (block_of (lay_out l begin) k) (omega (arith, few_tokens)) (holds_or (table_holds leaving k h) (table_holds entering k h))

  only_row : (u w : Plane) (k : ℕ) → k < 9
      → get_or (join_tables Only (table_of t u) (table_of t w)) k [] ≡ and_words (get_or (table_of t u) k []) (not_words (get_or (table_of t w) k []))
  only_row u w k h =
      sym (joined_at Only (table_of t u) (table_of t w) k (both_long u w) (omega (arith, table_long u)))
      ∙ only_is (get_or (table_of t u) k []) (get_or (table_of t w) k [])

  room : suc (length l) ≤ wide 8
  room = omega (arith, few_tokens)

  pub propagate_source_is : (k : ℕ) → k < 9 → get_or (propagate_source_table t) k [] ≡ set (suc (length l)) 8 (source_of (lay_out l begin) k)
  propagate_source_is k h =
      only_row leaving entering k h
      ∙ holds_set (suc (length l)) _ (source_of (lay_out l begin) k) room (holds_and_l (table_holds leaving k h) (near_not room (table_holds entering k h).near))

  pub propagate_target_is : (k : ℕ) → k < 9 → get_or (propagate_target_table t) k [] ≡ set (suc (length l)) 8 (target_of (lay_out l begin) k)
  propagate_target_is k h =
      only_row entering leaving k h
      ∙ holds_set (suc (length l)) _ (target_of (lay_out l begin) k) room (holds_and_l (table_holds entering k h) (near_not room (table_holds leaving k h).near))
