-- THE TABLE OF WORK HOLDS THE IMAGE'S MASKS: each series has the masks where they lie, propagate's source less one, and the back edges have theirs; so the
-- run on the table's first words finds the ends of the image's masks.
use mathlib.Core.Path.{◌≡◌, refl, sym, ap, ap₂, ◌∙◌, subst}
use mathlib.Core.Bool.{true}
use mathlib.Core.List.{List, []}
use Prim.Native.Nat.{ℕ, zero, suc, ◌+◌, ◌-◌, ◌*◌, ◌≤◌, ◌<◌}
use native.Mathlib.Nat.{le_refl, not-suc-le-zero}
use native.Mathlib.Omega.{arith}
use borrow.Author.Count.{below_more}
use lib.ListN.{get_or, length, length-set, set, take}
use lib.Seq.{get_or-set_other, get_or-set_same, take-take}
use Rattle.model.specs.Models.Sections.{back_at, depth_word, gather_at, propagate_at, scatter_at, state_word}
use Rattle.model.specs.Models.Run.{close_words, ends_with, Masks}
use Rattle.model.specs.Models.Words.{Fit}
use Rattle.model.proofs.Words.Run.{Bytes}
use Rattle.run_moves.specs.Less.{less_one, plus_words}
use Rattle.run_moves.proofs.Laws.Less.{plus_less}
use Rattle.image_sections.specs.Sections.{Placed, sections_in, width_of}
use Rattle.image_sections.specs.declared.Sections.{Sections}
use Rattle.image_sections.proofs.Laws.Within.{bytes_fit, own_depth, own_states, own_width, within}
use Rattle.run_word.specs.Ends.{Limits}
use Rattle.run_word.proofs.Laws.Back.{BackCut}
use Rattle.run_word.proofs.Laws.Cut.{close_cut, Cut, ends_cut}
use Rattle.run_word.proofs.Laws.Nine.{nine_scatter}
use Rattle.run.specs.Work.{cut_masks, masks_of, Overs, pass_masks, Put, PutTo, row_at, rule_masks, series_at, Tabled, Whole, work_masks}
use Rattle.run.proofs.Laws.Backs.{masks_low, whole_backs}
use Rattle.run.proofs.Laws.Rounds.{close_letters}
use Rattle.run.proofs.Laws.Rows.{fit_at, row_short, series-row}

module _ (ws : List ℕ) (fits : Fit ws) (S : Placed ws (sections_in ws)) (table : List (List ℕ)) (I : Tabled ws (width_of ws) (depth_word ws) table) where
  abbrev W : ℕ
  W = width_of ws

  abbrev d : ℕ
  d = depth_word ws

  narrow : W ≤ 8
  narrow = omega (arith, S.few)

  scattered : (k j : ℕ) → k < d → j < 3 → get_or table (9 * k + j) [] ≡ (masks_of ws).scatter_mask k j
  scattered k j h l = I.passes k j (omega (arith, S.shallow)) (omega arith) ∙ sym (nine_scatter j _ _ _ _ l) ∙ series-row ws (scatter_at W) W j d k h

  -- where the number of the series is written out, so is the section
  gathered : (k j : ℕ) → k < d → j < 3 → get_or (series_at ws (gather_at W d) W d j) k [] ≡ (masks_of ws).gather_mask k j
  gathered k j h l = series-row ws (gather_at W d) W j d k h

  propagated : (k j : ℕ) → k ≤ d → get_or (series_at ws (propagate_at W d) W (d + 1) j) k [] ≡ (masks_of ws).propagate_mask k j
  propagated k j h = series-row ws (propagate_at W d) W j (d + 1) k (omega arith)

  source : (k : ℕ) → k ≤ d → plus_words (get_or table (9 * k + 7) []) true ≡ (masks_of ws).propagate_mask k 1
  source k h =
      let at = propagate_at W d + W * (3 * k + 1) in
      ap (λ (x : List ℕ). plus_words x true) (I.passes k 7 (omega (arith, S.shallow)) (omega arith) ∙ ap less_one (propagated k 1 h))
      ∙ plus_less (row_at ws at W) (row_short ws at W narrow) (fit_at ws at W fits)

  abbrev N : ℕ → Masks
  N n = cut_masks n (work_masks ws W table)

  pub work_cut : (n : ℕ) → Cut n d (masks_of ws) (N n)
  work_cut n = record {
    letters = λ b l. refl;
    loops = λ b l. refl;
    scatters = scatters;
    gathers = gathers;
    propagates = propagates;
    start = refl;
  }
    where
      scatters : (k j : ℕ) → k < d → j < 3 → take n ((masks_of ws).scatter_mask k j) ≡ (N n).scatter_mask k j
      scatters k zero h l =
          let e : 9 * k + 0 ≡ 9 * k = omega arith in
          ap (take n) (sym (scattered k 0 h l) ∙ ap (λ (i : ℕ). get_or table i []) e)
      scatters k (suc zero) h l = ap (take n) (sym (scattered k 1 h l))
      scatters k (suc (suc zero)) h l = ap (take n) (sym (scattered k 2 h l))
      scatters k (suc (suc (suc j))) h l = absurd (omega arith)

      gathers : (k j : ℕ) → k < d → j < 3 → take n ((masks_of ws).gather_mask k j) ≡ (N n).gather_mask k j
      gathers k zero h l = ap (take n) (sym (I.passes k 3 (omega (arith, S.shallow)) (omega arith) ∙ gathered k 0 h l))
      gathers k (suc zero) h l = ap (take n) (sym (I.passes k 4 (omega (arith, S.shallow)) (omega arith) ∙ gathered k 1 h l))
      gathers k (suc (suc zero)) h l = ap (take n) (sym (I.passes k 5 (omega (arith, S.shallow)) (omega arith) ∙ gathered k 2 h l))
      gathers k (suc (suc (suc j))) h l = absurd (omega arith)

      propagates : (k j : ℕ) → k ≤ d → j < 3 → take n ((masks_of ws).propagate_mask k j) ≡ (N n).propagate_mask k j
      propagates k zero h l = ap (take n) (sym (I.passes k 6 (omega (arith, S.shallow)) (omega arith) ∙ propagated k 0 h))
      propagates k (suc zero) h l = ap (take n) (sym (source k h))
      propagates k (suc (suc zero)) h l = ap (take n) (sym (I.passes k 8 (omega (arith, S.shallow)) (omega arith) ∙ propagated k 2 h))
      propagates k (suc (suc (suc j))) h l = absurd (omega arith)

  pub back_cut : (n : ℕ) → W ≤ n → BackCut n d (masks_of ws) (N n)
  back_cut n h = record { backs = backs; low = masks_low ws S n h }
    where
      backs : (k j : ℕ) → k < d → j < 2 → take n ((masks_of ws).back_mask k j) ≡ (N n).back_mask k j
      backs k zero m l =
          let e : 2 * k + 0 ≡ 2 * k = omega arith in
          ap (take n) (ap (λ (i : ℕ). row_at ws (back_at W d + W * i) W) e ∙ sym (I.backs (2 * k) (omega arith)))
      backs k (suc zero) m l =
          let e : 81 + (2 * k + 1) ≡ 82 + 2 * k = omega arith in
          ap (take n) (sym (I.backs (2 * k + 1) (omega arith)) ∙ ap (λ (i : ℕ). get_or table i []) e)
      backs k (suc (suc j)) m l = absurd (omega arith)

  -- both rounds of eight words are the whole ones
  pub close_eight : {deep : ℕ} → deep ≡ d → (live r : List ℕ) → length live ≤ 8 → take 8 r ≡ close_words (pass_masks 8 table) deep (take 8 live)
      → take 8 r ≡ take 8 (close_words (masks_of ws) d live)
  close_eight {deep} q live r h e =
      e ∙ close_letters 8 [] ws 0 W table deep (take 8 live)
      ∙ ap (λ (i : ℕ). close_words (N 8) i (take 8 live)) q
      ∙ sym (close_cut 8 d (masks_of ws) (N 8) (work_cut 8) (back_cut 8 narrow) live h)

  -- and their first words are those of a rule of so many, with what code has read of the shape
  pub close_wide : {wide deep : ℕ} → wide ≡ W → deep ≡ d → (live r : List ℕ) → length live ≤ 8 → take 8 r ≡ close_words (pass_masks 8 table) deep (take 8 live)
      → take wide r ≡ close_words (rule_masks ws wide table) deep (take wide live)
  close_wide {wide} {deep} ew ed live r h e =
      ap (λ (n : ℕ). take n r) ew ∙ sym (take-take W 8 r narrow) ∙ ap (take W) (close_eight ed live r h e) ∙ take-take W 8 (close_words (masks_of ws) d live) narrow
      ∙ close_cut W d (masks_of ws) (N W) (work_cut W) (back_cut W (le_refl W)) live h
      ∙ sym (ap (λ (n : ℕ). close_words (rule_masks ws n table) deep (take n live)) ew ∙ ap (λ (i : ℕ). close_words (N W) i (take W live)) ed)

  -- THE SAME ENDS
  pub work_ends : {wide deep count : ℕ} → wide ≡ W → deep ≡ d → count ≡ state_word ws → (text : List ℕ) → Bytes text
      → ends_with (rule_masks ws wide table) deep (count - 1) text ≡ ends_with (masks_of ws) d (state_word ws - 1) text
  work_ends {wide} {deep} {count} ew ed em text B =
      ap (λ (n : ℕ). ends_with (rule_masks ws n table) deep (count - 1) text) ew ∙ ap₂ (λ (i k : ℕ). ends_with (N W) i (k - 1) text) ed em
      ∙ sym (ends_cut W d (masks_of ws) (N W) (work_cut W) (back_cut W (le_refl W)) (state_word ws - 1) (omega (arith, S.some)) text B)

-- ---- the table made: a series put, one mask more and one series more
pub put_begin : (j : ℕ) (masks table : List (List ℕ)) → PutTo 0 j masks table table
put_begin j masks table = record { here = λ k h. absurd (not-suc-le-zero h); there = λ k i h q. refl; long = refl }

pub put_more : {c j : ℕ} {masks table new : List (List ℕ)} → PutTo c j masks table new → c < 9 → j < 9 → length table ≡ 97
    → PutTo (c + 1) j masks table (set new (9 * c + j) (get_or masks c []))
put_more {c} {j} {masks} {table} {new} P h l long = record {
  here = below_more (λ (k : ℕ). get_or (set new (9 * c + j) v) (9 * k + j) [] ≡ get_or masks k []) c
      (λ k m. get_or-set_other new (9 * c + j) (9 * k + j) v [] (λ q. let e : 9 * k + j ≡ 9 * c + j = q in absurd (omega arith)) ∙ P.here k m)
      (get_or-set_same new (9 * c + j) v [] (omega (arith, P.long, long)));
  there = λ k i m q. get_or-set_other new (9 * c + j) (9 * k + i) v [] (λ e. q (let f : 9 * k + i ≡ 9 * c + j = e in omega arith)) ∙ P.there k i m q;
  long = length-set new (9 * c + j) v ∙ P.long;
}
  where
    v : List ℕ
    v = get_or masks c []

pub series_entered : {c : ℕ} (rows : ℕ → ℕ → List ℕ) {masks table new : List (List ℕ)} → ((k j : ℕ) → k < 9 → j < c → get_or table (9 * k + j) [] ≡ rows j k) → c < 9 → Put c masks table new
    → ((k : ℕ) → k < 9 → get_or masks k [] ≡ rows c k) → (k j : ℕ) → k < 9 → j < c + 1 → get_or new (9 * k + j) [] ≡ rows j k
series_entered {c} rows {masks} {table} {new} I h P M k j l =
    below_more (λ (i : ℕ). get_or new (9 * k + i) [] ≡ rows i k) c
    (λ i m. P.there k i (omega arith) (λ q. let e : i ≡ c = q in absurd (omega arith)) ∙ I k i l m) (P.here k l ∙ M k l) j

-- the table that code has made, by the places
pub tabled_of : {ws : List ℕ} {p : Sections} (table : List (List ℕ)) → Placed ws p → Tabled ws p.width p.depth table → Tabled ws (width_of ws) (depth_word ws) table
tabled_of {ws} {p} table P I =
    subst (λ (x : ℕ). Tabled ws (width_of ws) x table) (own_depth P) (subst (λ (x : ℕ). Tabled ws x p.depth table) (own_width P) I)

-- with it, of a rule of more than 64 states, the loop over a stretch has what it asks
pub overs : {ws stretch : List ℕ} {p : Sections} {place found deep : ℕ} {table : List (List ℕ)} → Placed ws p → 64 < p.states → Limits place found stretch → deep ≡ p.depth
    → Tabled ws p.width p.depth table → Overs ws stretch place found p.width deep (p.states - 1) table
overs {p = p} {table = table} P many L e E =
    let I = within P in
    record {
      steps = record { wide = omega (arith, I.room, many); narrow = I.narrow; long = bytes_fit P; shallow = omega (arith, e, I.deep) };
      limits = L;
      within = omega (arith, I.room, own_states P, P.some);
      whole = subst (Whole table) (sym e) (whole_backs table P E);
    }
