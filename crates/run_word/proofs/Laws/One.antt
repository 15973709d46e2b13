-- THE TABLE OF WORK HOLDS THE IMAGE'S MASKS: the entries by their tests; the table's masks are those of the image, so they find the same ends; and
-- so do the masks of eight words of a rule of one.
use Rattle.std.proofs.Common.{◌≡◌, ℕ, zero, suc, ◌+◌, ◌-◌, ◌*◌, ◌^◌, ◌<◌, ◌≤◌, Bool, true, false, cond, List, [], ◌∷◌, length, get_or, take, sym, refl, ap, ◌∙◌, not-suc-le-zero, arith}
use lib.Seq.{sets}
use Rattle.model.specs.Models.Sections.{back_at, depth_word, gather_at, propagate_at, scatter_at, three_place, two_place}
use Rattle.model.specs.Models.Run.{close_words, ends_after, Masks, run_from}
use Rattle.model.specs.Models.Words.{wrap_add, wrap_sub}
use Rattle.model.proofs.Words.Run.{Bytes}
use Rattle.image_sections.specs.Sections.{Placed}
use Rattle.image_sections.specs.declared.Sections.{Sections}
use Rattle.image_sections.proofs.Laws.Within.{single}
use Rattle.run_word.specs.Ends.{Limits, RanOver}
use Rattle.run_word.specs.One.{Backs, chain, Entered, entry_at, NoChain, one_masks, word_at, work_masks}
use Rattle.run_word.specs.Stretch.{Chosen, RanFrom, WorkOf}
use Rattle.run_word.specs.declared.stretch.From.{From}
use Rattle.run_word.specs.declared.stretch.Ran.{Ran}
use Rattle.run_word.specs.declared.work.Work.{Work}
use Rattle.run_word.proofs.Laws.Back.{BackCut, Zeros}
use Rattle.run_word.proofs.Laws.Cut.{after_cut, close_cut, Cut, run_cut}
use Rattle.run_word.proofs.Laws.Nine.{entered_at, nine_gather, nine_scatter}

pub never : true ≡ false → ⊥
never e = let z : ◌≡◌ {A = ℕ} 0 1 = cc in omega arith

-- ---- THE TABLE'S MASKS ARE THE IMAGE'S
module _ (ws table backs : List ℕ) (d : ℕ) (any : Bool) (deep : d ≡ depth_word ws) (I : Entered ws d table) (N : NoChain table d any) (B : Backs ws d backs)
    (fit : (i : ℕ) → get_or ws i 0 < 2 ^ 64) where
  entry : (k j : ℕ) → k ≤ d → j < 9 → get_or table (9 * k + j) 0 ≡ entry_at ws d k j
  entry = entered_at 0 (entry_at ws d) table d I

  -- word j of depth k + 1, where the image has it
  scattered : (k j : ℕ) → k < d → j < 3 → get_or table (9 * suc k + j) 0 ≡ get_or ws (three_place (scatter_at 1) 1 k j) 0
  scattered k j h l =
      entry (suc k) j h (omega arith) ∙ sym (nine_scatter j _ _ _ _ l)
      ∙ (let e : scatter_at 1 + 3 * suc k + j - 3 ≡ three_place (scatter_at 1) 1 k j = omega arith in ap (λ (i : ℕ). get_or ws i 0) e)

  gathered : (k j : ℕ) → k < d → j < 3 → get_or table (9 * suc k + (3 + j)) 0 ≡ get_or ws (three_place (gather_at 1 (depth_word ws)) 1 k j) 0
  gathered k j h l =
      entry (suc k) (3 + j) h (omega arith) ∙ sym (nine_gather (3 + j) _ _ _ _ (omega arith) (omega arith))
      ∙ (let e : gather_at 1 d + 3 * suc k + (3 + j) - 6 ≡ three_place (gather_at 1 (depth_word ws)) 1 k j = omega (arith, deep) in ap (λ (i : ℕ). get_or ws i 0) e)

  abbrev at : ℕ → ℕ → ℕ
  at k j = three_place (propagate_at 1 (depth_word ws)) 1 k j

  place : (k j : ℕ) → propagate_at 1 d + 3 * k + (6 + j) - 6 ≡ at k j
  place k j = omega (arith, deep)

  block : (k : ℕ) → k ≤ d → get_or table (9 * k + 6) 0 ≡ get_or ws (at k 0) 0
  block k h = entry k 6 h (omega arith) ∙ ap (λ (i : ℕ). get_or ws i 0) (place k 0)

  source : (k : ℕ) → k ≤ d → wrap_add (get_or table (9 * k + 7) 0) 1 ≡ get_or ws (at k 1) 0
  source k h =
      ap (λ (x : ℕ). wrap_add x 1) (entry k 7 h (omega arith))
      ∙ back (get_or ws (propagate_at 1 d + 3 * k + 7 - 6) 0) (fit (propagate_at 1 d + 3 * k + 7 - 6)) ∙ ap (λ (i : ℕ). get_or ws i 0) (place k 1)
    where
      back : (x : ℕ) → x < 2 ^ 64 → wrap_add (wrap_sub x 1) 1 ≡ x
      back x l = omega arith

  target : (k : ℕ) → k ≤ d → get_or table (9 * k + 8) 0 ≡ get_or ws (at k 2) 0
  target k h = entry k 8 h (omega arith) ∙ ap (λ (i : ℕ). get_or ws i 0) (place k 2)

  -- without a chain the block was empty
  shown : (b : Bool) → any ≡ b → (k : ℕ) → k ≤ d → cond b (get_or table (9 * k + 6) 0) 0 ≡ get_or table (9 * k + 6) 0
  shown true e k h = refl
  shown false e k h = sym (N e k h)

  chained : (k j : ℕ) → k ≤ d → j < 3
      → chain any (get_or table (9 * k + 6) 0) (get_or table (9 * k + 7) 0) (get_or table (9 * k + 8) 0) j ≡ word_at ws (at k j)
  chained k zero h l = ap (λ (x : ℕ). x ∷ []) (shown any refl k h ∙ block k h)
  chained k (suc zero) h l = ap (λ (x : ℕ). x ∷ []) (source k h)
  chained k (suc (suc zero)) h l = ap (λ (x : ℕ). x ∷ []) (target k h)
  chained k (suc (suc (suc j))) h l = absurd (omega arith)

  abbrev T : Masks
  T = work_masks ws any table backs

  one_cut : Cut 1 d T (one_masks ws)
  one_cut = record {
    letters = λ b l. refl;
    loops = λ b l. refl;
    scatters = scatters;
    gathers = gathers;
    propagates = propagates;
    start = refl;
  }
    where
      scatters : (k j : ℕ) → k < d → j < 3 → take 1 (T.scatter_mask k j) ≡ (one_masks ws).scatter_mask k j
      scatters k zero h l = (let e : 9 * suc k ≡ 9 * suc k + 0 = omega arith in ap (word_at table) e) ∙ ap (λ (x : ℕ). x ∷ []) (scattered k 0 h l)
      scatters k (suc zero) h l = ap (λ (x : ℕ). x ∷ []) (scattered k 1 h l)
      scatters k (suc (suc zero)) h l = ap (λ (x : ℕ). x ∷ []) (scattered k 2 h l)
      scatters k (suc (suc (suc j))) h l = absurd (omega arith)

      gathers : (k j : ℕ) → k < d → j < 3 → take 1 (T.gather_mask k j) ≡ (one_masks ws).gather_mask k j
      gathers k zero h l = ap (λ (x : ℕ). x ∷ []) (gathered k 0 h l)
      gathers k (suc zero) h l = ap (λ (x : ℕ). x ∷ []) (gathered k 1 h l)
      gathers k (suc (suc zero)) h l = ap (λ (x : ℕ). x ∷ []) (gathered k 2 h l)
      gathers k (suc (suc (suc j))) h l = absurd (omega arith)

      propagates : (k j : ℕ) → k ≤ d → j < 3 → take 1 (T.propagate_mask k j) ≡ (one_masks ws).propagate_mask k j
      propagates zero zero h l = chained 0 0 h l
      propagates zero (suc zero) h l = chained 0 1 h l
      propagates zero (suc (suc j)) h l = chained 0 (suc (suc j)) h l
      propagates (suc k) zero h l = chained (suc k) 0 h l
      propagates (suc k) (suc zero) h l = chained (suc k) 1 h l
      propagates (suc k) (suc (suc j)) h l = chained (suc k) (suc (suc j)) h l

  one_back : BackCut 1 d T (one_masks ws)
  one_back = record { backs = edges; low = record { clear = λ k j h l. none (get_or backs (2 * k + j) 0); long = λ k j h l. omega arith } }
    where
      edges : (k j : ℕ) → k < d → j < 2 → take 1 (T.back_mask k j) ≡ (one_masks ws).back_mask k j
      edges k j h l = ap (λ (x : ℕ). x ∷ []) (B (2 * k + j) (omega arith) ∙ (let e : back_at 1 d + (2 * k + j) ≡ two_place (back_at 1 (depth_word ws)) 1 k j = omega (arith, deep) in ap (λ (n : ℕ). get_or ws n 0) e))

      none : (w : ℕ) → Zeros 1 (w ∷ [])
      none w zero h = absurd (not-suc-le-zero h)
      none w (suc i) h = refl

  -- the first words, and the run over a stretch with the depth as a literal or not
  pub one_first : {first : ℕ} → first ∷ [] ≡ close_words T d (1 ∷ []) → first ∷ [] ≡ close_words (one_masks ws) d (1 ∷ [])
  one_first e = ap (take 1) e ∙ close_cut 1 d T (one_masks ws) one_cut one_back (1 ∷ []) (omega arith)

  one_over : (n : ℕ) → d ≡ n → {last : ℕ} → last < 64 → {stretch : List ℕ} → Bytes stretch → {place found first r total : ℕ} {before after : List ℕ}
      → RanOver T 1 n last place found stretch (first ∷ []) before (r ∷ []) total after
      → RanOver (one_masks ws) 1 d last place found stretch (first ∷ []) before (r ∷ []) total after
  one_over n q {last} l {stretch} bs {place} {found} {first} {r} {total} {before} {after} G = record {
    counted = G.counted ∙ ap (λ (ps : List ℕ). found + length ps) e;
    stored = G.stored ∙ ap (sets before found) e;
    runs = ap (take 1) (G.runs ∙ ap (λ (i : ℕ). run_from T i (first ∷ []) stretch) (sym q)) ∙ run_cut 1 d T (one_masks ws) one_cut one_back (first ∷ []) stretch bs;
  }
    where
      e : ends_after T n last place (first ∷ []) stretch ≡ ends_after (one_masks ws) d last place (first ∷ []) stretch
      e =
          ap (λ (i : ℕ). ends_after T i last place (first ∷ []) stretch) (sym q)
          ∙ after_cut 1 d T (one_masks ws) one_cut one_back last (omega arith) place (first ∷ []) stretch bs

-- ---- the choice of a loop: each runs as the image's masks do, with the depth and the presence of chains as literals or not, with the back edges' masks
-- or, where there is none, without
pub chosen : {ws stretch : List ℕ} {from : From} {last d : ℕ} {any : Bool} {table backs : List ℕ} → Chosen ws stretch from last d any table backs → ((i : ℕ) → get_or ws i 0 < 2 ^ 64)
    → Bytes stretch → (flag : Bool) → NoChain table d flag → (edges : List ℕ) → Backs ws d edges → (n : ℕ) → d ≡ n → (r : Ran) {before after : List ℕ}
    → RanFrom (work_masks ws flag table edges) n last stretch from before r after → RanFrom (one_masks ws) d last stretch from before r after
chosen {ws} {d = d} {table = table} C fit bs flag N edges B n e r = one_over ws table edges d flag C.deep C.entered N B fit n e C.overs.few bs

pub no_back : {ws stretch : List ℕ} {from : From} {last d : ℕ} {any : Bool} {table backs : List ℕ} → Chosen ws stretch from last d any table backs
    → ((i : ℕ) → i < 2 * d → get_or backs i 0 ≡ 0) → Chosen ws stretch from last d any table []
no_back C z = record {
  overs = C.overs;
  shallow = C.shallow;
  deep = C.deep;
  entered = C.entered;
  none = C.none;
  edges = λ i h. sym (z i h) ∙ C.edges i h;
}

-- words of one word to a mask, with the masks of work that were made of them, have what the choice of a loop asks
pub may_choose : {ws : List ℕ} {p : Sections} → Placed ws p → p.states ≤ 64 → {w : Work} → WorkOf ws p w → (from : From) {stretch : List ℕ}
    → Limits from.place from.found stretch → Chosen ws stretch from w.last w.depth w.any w.table w.backs
may_choose P h {w} W from L =
    let S = single P h in
    record {
      overs = record { long = omega (arith, S.long); limits = L; few = omega (arith, h, P.some, W.last) };
      shallow = w.deep;
      deep = W.depth ∙ ap (λ (q : Sections). q.depth) P.own;
      entered = W.entered;
      none = w.none;
      edges = W.edges;
    }
