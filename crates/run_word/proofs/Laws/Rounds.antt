-- THE TWO ROUNDS: one turn of the loop over the depths on one word; when the second round is made, on any words and on one.
use Rattle.std.proofs.Common.{◌≡◌, ℕ, zero, suc, ◌+◌, ◌-◌, ◌*◌, ◌<◌, Bool, true, false, cond, ◌≢◌, List, [], ◌∷◌, get_or, sym, refl, ap, ◌∙◌, ap₂, not-suc-le-zero, arith}
use Rattle.model.specs.Models.Run.{close_words, Masks, pass_words, returns_words, return_words, second_round}
use Rattle.model.specs.Models.Verdict.{same_words}
use Rattle.model.specs.Models.Words.{or_words}
use Rattle.mask.proofs.Laws.Same.{same_false, same_true}
use Rattle.run_word.specs.One.{table_masks, word_at}
use Rattle.run_word.proofs.Laws.Back.{one_round, Zeros}

-- ---- one turn of the loop over the depths
pub returns_again : (M : Masks) (backs : List ℕ) (d k : ℕ) (first live : List ℕ) {r : List ℕ} → 0 < k → ((i j : ℕ) → M.back_mask i j ≡ word_at backs (2 * i + j))
    → returns_words M k first live ≡ returns_words M d first first → r ≡ or_words live (return_words (word_at backs (2 * (k - 1))) (word_at backs (2 * (k - 1) + 1)) first)
    → returns_words M (k - 1) first r ≡ returns_words M d first first
returns_again M backs d zero first live h B I e = absurd (not-suc-le-zero h)
returns_again M backs d (suc k) first live h B I e =
    let p : suc k - 1 ≡ k = omega arith in
    let q : 2 * k ≡ 2 * k + 0 = omega arith in
    ap₂ (λ (i : ℕ) (w : List ℕ). returns_words M i first w) p
    (e ∙ ap (λ (i : ℕ). or_words live (return_words (word_at backs (2 * i)) (word_at backs (2 * i + 1)) first)) p
    ∙ ap₂ (λ (s t : List ℕ). or_words live (return_words s t first)) (ap (word_at backs) q ∙ sym (B k 0)) (sym (B k 1)))
    ∙ I

-- ---- the second round, by whether the back edges add something to the first
module _ (M : Masks) (d : ℕ) (first more : List ℕ) (e : more ≡ returns_words M d first first) where
  by : {b : Bool} → same_words more first ≡ b → cond b first (pass_words M d more) ≡ second_round M d first
  by t = sym (ap (λ (c : Bool). cond c first (pass_words M d more)) t) ∙ ap (λ (m : List ℕ). cond (same_words m first) first (pass_words M d m)) e

  pub one_more : same_words more first ≡ false → pass_words M d more ≡ second_round M d first
  one_more t = by t

  pub no_more : same_words more first ≡ true → first ≡ second_round M d first
  no_more t = by t

-- both rounds of one word
module _ (M : Masks) (d : ℕ) (live : List ℕ) (first more : ℕ) (P : first ∷ [] ≡ pass_words M d live) (R : more ∷ [] ≡ returns_words M d (first ∷ []) (first ∷ [])) where
  pub closed_once : more ≡ first → first ∷ [] ≡ close_words M d live
  closed_once e = no_more M d (first ∷ []) (more ∷ []) R (same_true (more ∷ []) (first ∷ []) (ap (λ (w : ℕ). w ∷ []) e)) ∙ ap (second_round M d) P

  pub closed_twice : more ≢ first → pass_words M d (more ∷ []) ≡ close_words M d live
  closed_twice n =
      one_more M d (first ∷ []) (more ∷ []) R (same_false (more ∷ []) (first ∷ []) (λ e. n (ap (λ (ws : List ℕ). get_or ws 0 0) e))) ∙ ap (second_round M d) P

-- without back edges the passes are all
pub no_edges : (ws : List ℕ) (any : Bool) (block below target : ℕ) (table : List ℕ) (d live : ℕ)
    → pass_words (table_masks ws any block below target table []) d (live ∷ []) ≡ close_words (table_masks ws any block below target table []) d (live ∷ [])
no_edges ws any block below target table d live =
    sym (one_round d (table_masks ws any block below target table []) (record { clear = λ k j h l. none; long = λ k j h l. omega arith }) (live ∷ []) (omega arith))
  where
    none : Zeros 0 (0 ∷ [])
    none zero h = refl
    none (suc i) h = refl
