-- THE BACK EDGES' MASKS: as they lie they have no bit past the width, for zeros stand above; how they are put into the table row by row; and how all their
-- sources come into one row.
use mathlib.Core.Path.{◌≡◌, refl, sym, ap, ap₂, ◌∙◌}
use mathlib.Core.Logic.{inl, inr}
use mathlib.Core.Bool.{Bool, true, false, ◌&&◌, ◌||◌}
use mathlib.Core.List.{List, []}
use Prim.Native.Nat.{ℕ, ◌+◌, ◌*◌, ◌^◌, ◌≤◌, ◌<◌}
use native.Mathlib.Omega.{arith}
use borrow.Author.Count.{below_more}
use lib.Bits.{and_le_l, and_le_r, bit_and, bit_or, or_add_and, or_comm}
use lib.ListN.{get_or, length, length-set, length-take, get_or-eq_default, set, take}
use lib.Seq.{get_or-set_other, get_or-set_same, get_or-take}
use mir.Syntax.{w64}
use mir.Val.{Fits}
use Rattle.model.specs.Bits.{bit}
use Rattle.model.specs.Models.Sections.{back_at, depth_word}
use Rattle.model.specs.Models.Words.{or_words}
use Rattle.model.proofs.Image.Address.{part_fits}
use Rattle.model.proofs.Laws.Bits.{bit_zero}
use Rattle.model.proofs.Laws.Bool.{le_or_lt}
use Rattle.model.proofs.Words.Bits.{bit-and, bit_ext, bit-or}
use Rattle.model.proofs.Words.Operations.{each_at}
use Rattle.run_moves.specs.Sets.{Apart}
use Rattle.image_sections.specs.Sections.{Placed, sections_in, width_of, Within}
use Rattle.image_sections.specs.declared.Sections.{Sections}
use Rattle.image_sections.proofs.Laws.Within.{back_is, within}
use Rattle.run_word.proofs.Laws.Back.{Low}
use Rattle.run.specs.Work.{Entered, masks_of, PutBacks, row_at, Sources, Tabled, Whole}
use Rattle.run.proofs.Laws.Rows.{row_clear, row_long}

-- ---- as they lie
pub masks_low : (ws : List ℕ) → Placed ws (sections_in ws) → (n : ℕ) → width_of ws ≤ n → Low n (depth_word ws) (masks_of ws)
masks_low ws S n h = record {
  clear = λ k j m l i g. row_clear ws (back_at W d + W * (2 * k + j)) W i (omega arith);
  long = λ k j m l. omega (
    arith,
    row_long ws (back_at W d + W * (2 * k + j)) W T.narrow (omega (arith, T.backs, part_fits W {k = 2 * k + j} {n = 2 * d} (omega arith))),
  );
}
  where
    W : ℕ
    W = width_of ws

    d : ℕ
    d = depth_word ws

    T : Within (sections_in ws) (length ws)
    T = within S

-- ---- put into the table
pub backs_begin : (ws : List ℕ) (W d : ℕ) (table : List (List ℕ)) → PutBacks 0 ws W d table table
backs_begin ws W d table = record { here = λ i h. absurd (omega arith); there = λ i h. refl; long = refl }

pub backs_more : {c W d : ℕ} {ws : List ℕ} {table new : List (List ℕ)} → PutBacks c ws W d table new → c < 16 → length table ≡ 97 → {row : List ℕ}
    → row ≡ row_at ws (back_at W d + W * c) W → PutBacks (c + 1) ws W d table (set new (81 + c) row)
backs_more {c} {W} {d} {ws} {table} {new} P h long {row} e = record {
  here = below_more (λ (i : ℕ). get_or (set new (81 + c) row) (81 + i) [] ≡ row_at ws (back_at W d + W * i) W) c
      (λ i m. get_or-set_other new (81 + c) (81 + i) row [] (λ q. let f : 81 + i ≡ 81 + c = q in absurd (omega arith)) ∙ P.here i m)
      (get_or-set_same new (81 + c) row [] (omega (arith, P.long)) ∙ e);
  there = λ i m. get_or-set_other new (81 + c) i row [] (λ q. let f : i ≡ 81 + c = q in absurd (omega arith)) ∙ P.there i m;
  long = length-set new (81 + c) row ∙ P.long;
}

pub tabled : {ws : List ℕ} {W d : ℕ} {table new : List (List ℕ)} → Entered ws W d table → PutBacks (2 * d) ws W d table new → Tabled ws W d new
tabled I P = record { passes = λ k j h l. P.there (9 * k + j) (omega arith) ∙ I k j h l; backs = P.here }

-- each is a whole mask
pub whole_backs : {ws : List ℕ} {p : Sections} (table : List (List ℕ)) → Placed ws p → Tabled ws p.width p.depth table → Whole table p.depth
whole_backs {ws} {p} table P E i h =
    let T = within P in
    ap length (E.backs i h)
    ∙ row_long ws (back_at p.width p.depth + p.width * i) p.width T.narrow
    (omega (arith, T.backs, back_is P, part_fits p.width {k = i} {n = 2 * p.depth} h))

-- ---- all sources in one row: none yet; and those of a depth more, for what is apart from both of two masks is apart from each
pub sources_none : (table : List (List ℕ)) (row : List ℕ) → Sources table 0 row
sources_none table row n live A k h = absurd (omega arith)

-- what is apart from both of two words is apart from the first
apart_first : (a b l : ℕ) → bit_or a b < 2 ^ 64 → bit_and (bit_or a b) l ≡ 0 → bit_and a l ≡ 0
apart_first a b l f e =
    bit_ext 64 (bit_and a l) 0 (omega (arith, and_le_l a l, and_le_r a b, or_add_and a b)) (omega arith)
    (λ i h. bit-and i a l ∙ go (bit a i) (bit b i) (bit l i)
    (sym (bit-and i (bit_or a b) l ∙ ap (λ (z : Bool). z && bit l i) (bit-or i a b)) ∙ ap (λ (n : ℕ). bit n i) e ∙ bit_zero i) ∙ sym (bit_zero i))
  where
    go : (x y z : Bool) → ((x || y) && z) ≡ false → (x && z) ≡ false
    go true y z e = e
    go false y z e = refl

pub sources_more : (table : List (List ℕ)) (k : ℕ) (row new : List ℕ) → Sources table k row → length row ≡ 8 → length (get_or table (81 + 2 * k) []) ≡ 8
    → ((i : ℕ) → Fits w64 (get_or new i 0)) → take 8 new ≡ or_words (take 8 row) (take 8 (get_or table (81 + 2 * k) [])) → Sources table (k + 1) new
sources_more table k row new S hr hs f e n live A =
    below_more (λ (j : ℕ). Apart n (get_or table (81 + 2 * j) []) live) k (S n live (first row here hr)) (first source there hs)
  where
    source : List ℕ
    source = get_or table (81 + 2 * k) []

    joined : (i : ℕ) → i < 8 → bit_or (get_or row i 0) (get_or source i 0) ≡ get_or new i 0
    joined i h =
        sym (ap₂ bit_or (get_or-take 8 row i 0 h) (get_or-take 8 source i 0 h))
        ∙ each_at bit_or (take 8 row) (take 8 source) i (omega (arith, length-take 8 row, length-take 8 source)) (omega (arith, length-take 8 row))
        ∙ ap (λ (l : List ℕ). get_or l i 0) (sym e) ∙ get_or-take 8 new i 0 h

    -- word i of the new row is made of word i of this one and another
    Part : List ℕ → Type 0
    Part xs = (i : ℕ) → i < 8 → (b : ℕ) × (bit_or (get_or xs i 0) b ≡ get_or new i 0)

    here : Part row
    here i h = (get_or source i 0, joined i h)

    there : Part source
    there i h = (get_or row i 0, or_comm (get_or source i 0) (get_or row i 0) ∙ joined i h)

    first : (xs : List ℕ) → Part xs → length xs ≡ 8 → Apart n xs live
    first xs P long i h = elim (le_or_lt 8 i) [
      | inl g ↦ ap (λ (x : ℕ). bit_and x (get_or live i 0)) (get_or-eq_default xs 0 (omega arith))
      | inr g ↦ let b = P i g in
          apart_first (get_or xs i 0) b.0 (get_or live i 0) (omega (arith, (f i).fits, b.1)) (ap (λ (x : ℕ). bit_and x (get_or live i 0)) b.1 ∙ A i h)
    ]
