-- ON ONE WORD the operations of the run are the machine's; and one turn of the loops over the depths.
use Rattle.std.proofs.Common.{◌≡◌, ℕ, zero, suc, ◌+◌, ◌-◌, ◌*◌, ◌%◌, ◌^◌, ◌<◌, ◌≤◌, Bool, cond, ◌⊎◌, List, [], ◌∷◌, get_or, sym, refl, ap, ap₂, ◌∙◌, inl, inr, not-suc-le-zero, arith}
use lib.Bits.{and_zero_l, bit_and, bit_or, bit_xor, or_zero_r}
use Rattle.model.specs.Models.Run.{fall_words, gather_words, Masks, propagate_words, rise_words, scatter_words}
use Rattle.model.specs.Models.Words.{wrap_add, wrap_sub}
use Rattle.model.proofs.Laws.Bool.{le_or_lt}
use Rattle.run_word.specs.One.{Fallen, Passed, Risen, table_masks, word_at}

-- ---- the complement of a difference of one word
-- a number that passes 2^64 at most once
once : (x r : ℕ) → x < 2 ^ 64 + 2 ^ 64 → x % 2 ^ 64 ≡ r → (r ≡ x) ⊎ (r + 2 ^ 64 ≡ x)
once x r h e = go (le_or_lt (2 ^ 64) x)
  where
    go : (2 ^ 64 ≤ x) ⊎ (x < 2 ^ 64) → (r ≡ x) ⊎ (r + 2 ^ 64 ≡ x)
    go (inl l) = inr (omega arith)
    go (inr l) = inl (omega arith)

-- (source - 1) - from is the complement of from - source: z is the first, w the second
opposite : {z from below source w : ℕ} → z < 2 ^ 64 → from < 2 ^ 64 → below < 2 ^ 64 → source < 2 ^ 64 → w < 2 ^ 64
    → (below ≡ z + from) ⊎ (below + 2 ^ 64 ≡ z + from) → (source ≡ below + 1) ⊎ (source + 2 ^ 64 ≡ below + 1)
    → (w ≡ from + 2 ^ 64 - source) ⊎ (w + 2 ^ 64 ≡ from + 2 ^ 64 - source) → z ≡ 2 ^ 64 - 1 - w
opposite hz hf hb hs hw (inl a) (inl b) (inl c) = omega arith
opposite hz hf hb hs hw (inl a) (inl b) (inr c) = omega arith
opposite hz hf hb hs hw (inl a) (inr b) (inl c) = omega arith
opposite hz hf hb hs hw (inl a) (inr b) (inr c) = omega arith
opposite hz hf hb hs hw (inr a) (inl b) (inl c) = omega arith
opposite hz hf hb hs hw (inr a) (inl b) (inr c) = omega arith
opposite hz hf hb hs hw (inr a) (inr b) (inl c) = omega arith
opposite hz hf hb hs hw (inr a) (inr b) (inr c) = omega arith

complement_one : (below from : ℕ) → below < 2 ^ 64 → from < 2 ^ 64
    → (below + (2 ^ 64 - from)) % 2 ^ 64 ≡ 2 ^ 64 - 1 - wrap_sub (wrap_sub from (wrap_add below 1)) 0
complement_one below from hb hf =
    let z = (below + (2 ^ 64 - from)) % 2 ^ 64 in
    let source = wrap_add below 1 in
    let w = wrap_sub from source in
    let hz : z < 2 ^ 64 = omega arith in
    let hs : source < 2 ^ 64 = omega arith in
    let hw : w < 2 ^ 64 = omega arith in
    let e : (z + from) % 2 ^ 64 ≡ below = omega arith in
    let same : w ≡ wrap_sub w 0 = omega arith in
    opposite hz hf hb hs hw (once (z + from) below (omega arith) e) (once (below + 1) source (omega arith) refl)
    (once (from + 2 ^ 64 - source) w (omega arith) refl)
    ∙ ap (λ (y : ℕ). 2 ^ 64 - 1 - y) same

-- ---- propagate
pub propagate_one : (block below target live : ℕ) → below < 2 ^ 64 → bit_or (bit_and live block) target < 2 ^ 64
    → bit_or live (bit_and block (bit_xor ((below + (2 ^ 64 - bit_or (bit_and live block) target)) % 2 ^ 64) (bit_or (bit_and live block) target))) ∷ []
    ≡ propagate_words (block ∷ []) (wrap_add below 1 ∷ []) (target ∷ []) (live ∷ [])
propagate_one block below target live hb hf =
    let from = bit_or (bit_and live block) target in
    ap (λ (y : ℕ). bit_or live (bit_and block (bit_xor y from)) ∷ []) (complement_one below from hb hf)

-- without a block nothing is reached
pub propagate_none : (source target live : ℕ) → live ∷ [] ≡ propagate_words (0 ∷ []) (source ∷ []) (target ∷ []) (live ∷ [])
propagate_none source target live =
    let from = bit_or (bit_and live 0) target in
    let z = bit_xor (2 ^ 64 - 1 - wrap_sub (wrap_sub from source) 0) from in
    ap (λ (y : ℕ). y ∷ []) (sym (ap (bit_or live) (and_zero_l z) ∙ or_zero_r live))

-- ---- one turn of the loops over the depths, with the nine words of depth k
module _ (ws : List ℕ) (any : Bool) (block below target : ℕ) (table backs : List ℕ) where
  abbrev M : Masks
  M = table_masks ws any block below target table backs

  abbrev along_at : ℕ → List ℕ → List ℕ
  along_at k live = propagate_words (cond any (get_or table (9 * k + 6) 0) 0 ∷ []) (wrap_add (get_or table (9 * k + 7) 0) 1 ∷ []) (word_at table (9 * k + 8)) live

  abbrev gather_at : ℕ → List ℕ → List ℕ
  gather_at k live = gather_words (word_at table (9 * k + 3)) (word_at table (9 * k + 4)) (word_at table (9 * k + 5)) live

  abbrev scatter_at : ℕ → List ℕ → List ℕ
  scatter_at k live = scatter_words (word_at table (9 * k)) (word_at table (9 * k + 1)) (word_at table (9 * k + 2)) live

  rise_turn : (k : ℕ) → 0 < k → (live : List ℕ) → rise_words M (k - 1) (gather_at (k - 1 + 1) (along_at (k - 1 + 1) live)) ≡ rise_words M k live
  rise_turn zero h live = absurd (not-suc-le-zero h)
  rise_turn (suc k) h live =
      let e : suc k - 1 ≡ k = omega arith in
      let f : suc k - 1 + 1 ≡ suc k = omega arith in
      ap₂ (λ (i j : ℕ). rise_words M i (gather_at j (along_at j live))) e f

  fall_turn : (d k : ℕ) → k < d → (live : List ℕ) → fall_words M (d - (k + 1)) (k + 1) (along_at (k + 1) (scatter_at (k + 1) live)) ≡ fall_words M (d - k) k live
  fall_turn d k h live =
      let e : d - k ≡ suc (d - (k + 1)) = omega arith in
      let f : k + 1 ≡ suc k = omega arith in
      ap (λ (j : ℕ). fall_words M (d - (k + 1)) j (along_at j (scatter_at j live))) f
      ∙ sym (ap (λ (n : ℕ). fall_words M n k live) e)

  -- what is left of the way from r gives what the whole way gives
  pub rise_again : (d k live r : ℕ) {a g : ℕ} → 0 < k → rise_words M k (r ∷ []) ≡ rise_words M d (live ∷ []) → a ∷ [] ≡ along_at (k - 1 + 1) (r ∷ [])
      → g ∷ [] ≡ gather_at (k - 1 + 1) (a ∷ []) → rise_words M (k - 1) (g ∷ []) ≡ rise_words M d (live ∷ [])
  rise_again d k live r h I ea eg = ap (rise_words M (k - 1)) (eg ∙ ap (gather_at (k - 1 + 1)) ea) ∙ rise_turn k h (r ∷ []) ∙ I

  pub fall_again : (d k live r : ℕ) {s a : ℕ} → k < d → fall_words M (d - k) k (r ∷ []) ≡ fall_words M d 0 (live ∷ []) → s ∷ [] ≡ scatter_at (k + 1) (r ∷ [])
      → a ∷ [] ≡ along_at (k + 1) (s ∷ []) → fall_words M (d - (k + 1)) (k + 1) (a ∷ []) ≡ fall_words M d 0 (live ∷ [])
  fall_again d k live r h I es ea =
      ap (fall_words M (d - (k + 1)) (k + 1)) (ea ∙ ap (along_at (k + 1)) es) ∙ fall_turn d k h (r ∷ []) ∙ I

-- ---- up, along depth 0's own chains and down: a pass
pub up_and_down : (any : Bool) (block below target : ℕ) (table : List ℕ) (d live : ℕ) {level r : ℕ} (up : ℕ) → Risen any table d live up
    → level ∷ [] ≡ propagate_words (cond any block 0 ∷ []) (wrap_add below 1 ∷ []) (target ∷ []) (up ∷ []) → Fallen any table d level r → Passed any block below target table d live r
up_and_down any block below target table d live up R A F ws backs =
    F ws backs block below target ∙ ap (fall_words (table_masks ws any block below target table backs) d 0) (A ∙ R ws backs block below target)
