-- MASKS IN A ROW OF WORDS: a state that is marked in one row is marked in the table that has this row, and no other table changes. So strokes, painted
-- one after another into the words, are painted into the table of each plane.
use mathlib.Core.Path.{◌≡◌, refl, sym, ap, ◌∙◌, subst}
use mathlib.Core.Bool.{Bool, true, false, cond}
use mathlib.Core.List.{List, [], ◌∷◌}
use Prim.Native.Nat.{ℕ, zero, suc, ◌+◌, ◌-◌, ◌*◌, ◌/◌, ◌%◌, ◌^◌, ◌≤◌, ◌<◌}
use native.Mathlib.Nat.{le_of_suc-le-suc, not-suc-le-zero, zero-add}
use native.Mathlib.Omega.{arith}
use borrow.Author.Tests.{eqb-false, eqb-true}
use lib.Bits.{bit_or}
use lib.Dec.{eqb}
use lib.ListN.{drop, get_or, get_or-replicate, length, length-drop, length-replicate, length-set, replicate}
use lib.Seq.{ext_get_or, get_or-drop, get_or-set_other, get_or-set_same, get_or-take, length-take-le}
use Rattle.model.specs.Models.LayOut.{back-source, back-target, entering, gather-block, gather-source, gather-target, leaving, letter-place, loop_place, number, same_plane, scatter-block, scatter-source, scatter-target, Stroke, Plane}
use Rattle.model.specs.Lists.{All}
use Rattle.model.specs.Models.Words.{put_bit}
use Rattle.tokens_masks.specs.Masks.{Blank, mark_row, paint, planes, row_in, row_number, rows_from, run_in, run_row, table_in}
use Rattle.tokens_masks.specs.Tables.{blank, mark_run, mark_state, paint_plane, paint_stroke, Table}
use Rattle.tokens_masks.proofs.Within.{Within}

-- ---- rows
pub row_long : (ms : List ℕ) (r : ℕ) → 8 * r + 8 ≤ length ms → length (row_in ms r) ≡ 8
row_long ms r fits = length-take-le 8 (drop (8 * r) ms) (omega (arith, length-drop (8 * r) ms))

pub row_word : (ms : List ℕ) (r j : ℕ) → j < 8 → get_or (row_in ms r) j 0 ≡ get_or ms (8 * r + j) 0
row_word ms r j h = get_or-take 8 (drop (8 * r) ms) j 0 h ∙ get_or-drop (8 * r) ms j 0

module _ (ms : List ℕ) (r x : ℕ) (hx : x < 512) (fits : 8 * r + 8 ≤ length ms) where
  abbrev at : ℕ
  at = 8 * r + x / 64

  abbrev after : List ℕ
  after = mark_row ms r x

  after_long : length after ≡ length ms
  after_long = length-set ms at _

  row_same : row_in after r ≡ put_bit (row_in ms r) x
  row_same =
      ext_get_or 0 (row_in after r) (put_bit (row_in ms r) x)
      (row_long after r (omega (arith, after_long)) ∙ sym (length-set (row_in ms r) (x / 64) _ ∙ row_long ms r fits))
      (λ j l. go j (omega (arith, row_long after r (omega (arith, after_long)))) (eqb j (x / 64)) refl)
    where
      here : get_or (row_in ms r) (x / 64) 0 ≡ get_or ms at 0
      here = row_word ms r (x / 64) (omega arith)

      go : (j : ℕ) → j < 8 → (b : Bool) → eqb j (x / 64) ≡ b → get_or (row_in after r) j 0 ≡ get_or (put_bit (row_in ms r) x) j 0
      go j h true e =
          subst (λ (i : ℕ). get_or (row_in after r) i 0 ≡ get_or (put_bit (row_in ms r) x) i 0) (sym (eqb-true j (x / 64) e))
          (row_word after r (x / 64) (omega arith)
          ∙ get_or-set_same ms at _ 0 (omega arith)
          ∙ sym (get_or-set_same (row_in ms r) (x / 64) _ 0 (omega (arith, row_long ms r fits)) ∙ ap (λ (v : ℕ). bit_or v (2 ^ (x % 64))) here))
      go j h false e =
          row_word after r j h
          ∙ get_or-set_other ms at (8 * r + j) _ 0 (λ q. eqb-false j (x / 64) e (omega arith))
          ∙ sym (get_or-set_other (row_in ms r) (x / 64) j _ 0 (eqb-false j (x / 64) e) ∙ row_word ms r j h)

  row_other : (s : ℕ) → (s ≡ r → ⊥) → 8 * s + 8 ≤ length ms → row_in after s ≡ row_in ms s
  row_other s d l =
      ext_get_or 0 (row_in after s) (row_in ms s) (long ∙ sym (row_long ms s l))
      (λ j h. word j (omega (arith, long)))
    where
      long : length (row_in after s) ≡ 8
      long = row_long after s (omega (arith, after_long))

      word : (j : ℕ) → j < 8 → get_or (row_in after s) j 0 ≡ get_or (row_in ms s) j 0
      word j h = row_word after s j h ∙ get_or-set_other ms at (8 * s + j) _ 0 (λ q. d (omega arith)) ∙ sym (row_word ms s j h)

-- ---- tables
rows_at : (n k₀ : ℕ) (ms : List ℕ) (i k : ℕ) → k < n → get_or (rows_from n k₀ ms i) k [] ≡ row_in ms (row_number (k₀ + k) i)
rows_at zero k₀ ms i k h = absurd (not-suc-le-zero h)
rows_at (suc n) k₀ ms i zero h = let e : k₀ ≡ k₀ + 0 = omega arith in ap (λ (k : ℕ). row_in ms (row_number k i)) e
rows_at (suc n) k₀ ms i (suc k) h =
    rows_at n (suc k₀) ms i k (le_of_suc-le-suc h) ∙ (let e : suc k₀ + k ≡ k₀ + suc k = omega arith in ap (λ (j : ℕ). row_in ms (row_number j i)) e)

pub table_long : (ms : List ℕ) (i : ℕ) → length (table_in ms i) ≡ 9
unfolding table_in
table_long ms i = refl

pub table_row : (ms : List ℕ) (i k : ℕ) → k < 9 → get_or (table_in ms i) k [] ≡ row_in ms (row_number k i)
unfolding table_in
table_row ms i k h = rows_at 9 0 ms i k h ∙ ap (λ (j : ℕ). row_in ms (row_number j i)) (zero-add k)

module _ (ms : List ℕ) (long : length ms ≡ 936) (i k x : ℕ) (hi : i < planes) (hk : k < 9) (hx : x < 512) where
  abbrev r : ℕ
  r = row_number k i

  fits : 8 * r + 8 ≤ length ms
  fits = omega arith

  mark_same : table_in (mark_row ms r x) i ≡ mark_state (table_in ms i) k x
  mark_same =
      ext_get_or [] (table_in (mark_row ms r x) i) (mark_state (table_in ms i) k x)
      (table_long (mark_row ms r x) i ∙ sym (length-set (table_in ms i) k _ ∙ table_long ms i))
      (λ j l. go j (omega (arith, table_long (mark_row ms r x) i)) (eqb j k) refl)
    where
      go : (j : ℕ) → j < 9 → (b : Bool) → eqb j k ≡ b → get_or (table_in (mark_row ms r x) i) j [] ≡ get_or (mark_state (table_in ms i) k x) j []
      go j h true e =
          subst (λ (n : ℕ). get_or (table_in (mark_row ms r x) i) n [] ≡ get_or (mark_state (table_in ms i) k x) n []) (sym (eqb-true j k e))
          (table_row (mark_row ms r x) i k hk
          ∙ row_same ms r x hx fits
          ∙ sym (get_or-set_same (table_in ms i) k _ [] (omega (arith, table_long ms i)) ∙ ap (λ (row : List ℕ). put_bit row x) (table_row ms i k hk)))
      go j h false e =
          let d = eqb-false j k e in
          table_row (mark_row ms r x) i j h
          ∙ row_other ms r x hx fits (row_number j i) (λ q. d (omega arith)) (omega arith)
          ∙ sym (get_or-set_other (table_in ms i) k j _ [] d ∙ table_row ms i j h)

  mark_other : (v : ℕ) → v < planes → (v ≡ i → ⊥) → table_in (mark_row ms r x) v ≡ table_in ms v
  mark_other v hv d =
      ext_get_or [] (table_in (mark_row ms r x) v) (table_in ms v) (table_long (mark_row ms r x) v ∙ sym (table_long ms v))
      (λ j l. row j (omega (arith, table_long (mark_row ms r x) v)))
    where
      row : (j : ℕ) → j < 9 → get_or (table_in (mark_row ms r x) v) j [] ≡ get_or (table_in ms v) j []
      row j h =
          table_row (mark_row ms r x) v j h ∙ row_other ms r x hx fits (row_number j v) (λ q. d (omega arith)) (omega arith) ∙ sym (table_row ms v j h)

-- ---- a run of states
run_long : (n : ℕ) (ms : List ℕ) (r x : ℕ) → length (run_row n ms r x) ≡ length ms
run_long zero ms r x = refl
run_long (suc n) ms r x = run_long n (mark_row ms r x) r (suc x) ∙ length-set ms (8 * r + x / 64) _

pub one_run : (ms : List ℕ) (r x : ℕ) → run_row (suc x - x) ms r x ≡ mark_row ms r x
one_run ms r x = let e : suc x - x ≡ 1 = omega arith in ap (λ (n : ℕ). run_row n ms r x) e

pub run_step : (ms : List ℕ) (r x z : ℕ) → x < z → run_row (z - (x + 1)) (mark_row ms r x) r (x + 1) ≡ run_row (z - x) ms r x
run_step ms r x z h =
    (let e : x + 1 ≡ suc x = omega arith in ap (λ (n : ℕ). run_row (z - (x + 1)) (mark_row ms r x) r n) e)
    ∙ (let e : suc (z - (x + 1)) ≡ z - x = omega arith in ap (λ (n : ℕ). run_row n ms r x) e)

pub run_end : (ms : List ℕ) (r x z : ℕ) → z ≤ x → run_row (z - x) ms r x ≡ ms
run_end ms r x z h = let e : z - x ≡ 0 = omega arith in ap (λ (n : ℕ). run_row n ms r x) e

-- the n states from x on are states
abbrev States : ℕ → ℕ → Type 0
States n x = (y : ℕ) → x ≤ y → y < x + n → y < 512

module _ (i k : ℕ) (hi : i < planes) (hk : k < 9) where
  run_same : (n : ℕ) (ms : List ℕ) (x : ℕ) → length ms ≡ 936 → States n x → table_in (run_row n ms (row_number k i) x) i ≡ mark_run n (table_in ms i) k x
  run_same zero ms x l h = refl
  run_same (suc n) ms x l h =
      run_same n (mark_row ms (row_number k i) x) (suc x) (length-set ms _ _ ∙ l) (λ y a b. h y (omega arith) (omega arith))
      ∙ ap (λ (t : Table). mark_run n t k (suc x)) (mark_same ms l i k x hi hk (h x (omega arith) (omega arith)))

  run_other : (n : ℕ) (ms : List ℕ) (x : ℕ) → length ms ≡ 936 → States n x → (v : ℕ) → v < planes → (v ≡ i → ⊥) → table_in (run_row n ms (row_number k i) x) v ≡ table_in ms v
  run_other zero ms x l h v hv d = refl
  run_other (suc n) ms x l h v hv d =
      run_other n (mark_row ms (row_number k i) x) (suc x) (length-set ms _ _ ∙ l) (λ y a b. h y (omega arith) (omega arith)) v hv d
      ∙ mark_other ms l i k x hi hk (h x (omega arith) (omega arith)) v hv d

-- ---- strokes
number_small : (w : Plane) → number w < planes
number_small letter-place = omega arith
number_small loop_place = omega arith
number_small scatter-block = omega arith
number_small scatter-source = omega arith
number_small scatter-target = omega arith
number_small gather-block = omega arith
number_small gather-source = omega arith
number_small gather-target = omega arith
number_small leaving = omega arith
number_small entering = omega arith
number_small back-source = omega arith
number_small back-target = omega arith

pub paint_long : (ss : List Stroke) (ms : List ℕ) → length (paint ss ms) ≡ length ms
paint_long [] ms = refl
paint_long (s ∷ ss) ms = paint_long ss _ ∙ run_long (s.to - s.from) ms (row_number s.row (number s.plane)) s.from

module _ (w : Plane) where
  one_held : (s : Stroke) (ms : List ℕ) → length ms ≡ 936 → Within s
      → table_in (run_in ms (number s.plane) s.row s.from s.to) (number w) ≡ cond (same_plane s.plane w) (paint_stroke (table_in ms (number w)) s) (table_in ms (number w))
  one_held s ms l W = go (same_plane v w) (eqb-true (number v) (number w)) (eqb-false (number v) (number w))
    where
      v : Plane
      v = s.plane

      states : States (s.to - s.from) s.from
      states y a b = omega (arith, W.1)

      go : (b : Bool) → (b ≡ true → number v ≡ number w) → (b ≡ false → number v ≡ number w → ⊥)
          → table_in (run_in ms (number v) s.row s.from s.to) (number w) ≡ cond b (paint_stroke (table_in ms (number w)) s) (table_in ms (number w))
      go true e d =
          ap (λ (i : ℕ). table_in (run_in ms i s.row s.from s.to) (number w)) (e refl)
          ∙ run_same (number w) s.row (number_small w) W.0 (s.to - s.from) ms s.from l states
      go false e d = run_other (number v) s.row (number_small v) W.0 (s.to - s.from) ms s.from l states (number w) (number_small w) (λ q. d refl (sym q))

  pub paint_held : (ss : List Stroke) (ms : List ℕ) → length ms ≡ 936 → All Within ss → table_in (paint ss ms) (number w) ≡ paint_plane w ss (table_in ms (number w))
  paint_held [] ms l W = refl
  paint_held (s ∷ ss) ms l W = paint_held ss _ (paint_long (s ∷ []) ms ∙ l) W.1 ∙ ap (paint_plane w ss) (one_held s ms l W.0)

-- ---- no state
pub blank_held : {n : ℕ} {ms : List ℕ} → n ≡ 936 → ms ≡ replicate n 0 → Blank ms
blank_held {n} {ms} l p = let e = p ∙ ap (λ (k : ℕ). replicate k 0) l in λ w. ap (λ (z : List ℕ). table_in z (number w)) e ∙ none w
  where
    zeros : List ℕ
    zeros = replicate 936 0

    row : (r : ℕ) → r < 117 → row_in zeros r ≡ replicate 8 0
    row r h =
        let long = row_long zeros r (omega (arith, length-replicate {A = ℕ} 936 0)) in
        ext_get_or 0 (row_in zeros r) (replicate 8 0) (long ∙ sym (length-replicate {A = ℕ} 8 0))
        (λ j l. let m : j < 8 = omega (arith, long) in row_word zeros r j m ∙ get_or-replicate {A = ℕ} 936 (8 * r + j) 0 0 (omega arith) ∙ sym (get_or-replicate {A = ℕ} 8 j 0 0 m))

    none : (w : Plane) → table_in zeros (number w) ≡ blank
    none w =
        ext_get_or [] (table_in zeros (number w)) blank (table_long zeros (number w) ∙ sym (length-replicate 9 (replicate {A = ℕ} 8 0)))
        (λ k l. let h : k < 9 = omega (arith, table_long zeros (number w)) in
        table_row zeros (number w) k h ∙ row (row_number k (number w)) (omega (arith, number_small w)) ∙ sym (get_or-replicate 9 k (replicate {A = ℕ} 8 0) [] h))
