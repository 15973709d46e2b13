-- THE BACK EDGES ON FEWER WORDS: they lead down, so the first n words of what they add are made of the first n words where no source stands above
-- them; and above n nothing is added where no target does.
use Rattle.std.proofs.Common.{◌≡◌, ℕ, zero, suc, ◌<◌, ◌≤◌, Bool, true, false, cond, ◌&&◌, List, [], ◌∷◌, ◌++◌, length, get_or, take, drop, sym, refl, ap, ◌∙◌, ap₂, le_trans, arith, take-append-drop}
use lib.Bits.{bit_or, or_zero_r}
use Rattle.model.specs.Bits.{bit}
use Rattle.model.specs.Models.Run.{ahead, back_word, close_words, fall_words, first_live, gather_by, Masks, move_by, pass_words, propagate_by, returns_words, return_words, rise_words, scatter_by, second_round}
use Rattle.model.specs.Models.Verdict.{same_words}
use Rattle.model.specs.Models.Words.{and_words, each_word, or_words, shift_words}
use Rattle.model.proofs.Laws.Bits.{bit_zero, mask_same, no_bit}
use Rattle.model.proofs.Laws.Bool.{same_truth}
use Rattle.model.proofs.Words.Back.{ahead_none}
use Rattle.model.proofs.Words.Operations.{each_short}
use Rattle.mask.proofs.Laws.Same.{same_exactly, same_true}
use Rattle.mask.proofs.Laws.Take.{take_each}

-- ---- nothing grows longer
each_under : (f : ℕ → ℕ → ℕ) (xs ys : List ℕ) → length (each_word f xs ys) ≤ length ys
each_under f [] ys = omega arith
each_under f (x ∷ xs) [] = omega arith
each_under f (x ∷ xs) (y ∷ ys) = let l = each_under f xs ys in omega arith

rise_short : (M : Masks) (k : ℕ) (live : List ℕ) → length (rise_words M k live) ≤ length live
rise_short M zero live = each_short _ live _
rise_short M (suc k) live =
    le_trans (rise_short M k (gather_by M k (propagate_by M (suc k) live)))
    (le_trans (each_short _ (propagate_by M (suc k) live) _) (each_short _ live _))

fall_short : (M : Masks) (n k : ℕ) (live : List ℕ) → length (fall_words M n k live) ≤ length live
fall_short M zero k live = omega arith
fall_short M (suc n) k live =
    le_trans (fall_short M n (suc k) (propagate_by M (suc k) (scatter_by M k live)))
    (le_trans (each_short _ (scatter_by M k live) _) (each_short _ live _))

pub pass_short : (M : Masks) (d : ℕ) (live : List ℕ) → length (pass_words M d live) ≤ length live
pass_short M d live = le_trans (fall_short M d 0 (rise_words M d live)) (rise_short M d live)

pub move_short : (M : Masks) (b : ℕ) (live : List ℕ) → length (move_by M b live) ≤ length M.start_mask
move_short M b live = each_under bit_or (or_words (and_words (shift_words live false) (M.letter_mask b)) (and_words live (M.loop_mask b))) M.start_mask

-- ---- a row without a bit from word n on
abbrev pub Zeros : ℕ → List ℕ → Type 0
Zeros n xs = (i : ℕ) → n ≤ i → get_or xs i 0 ≡ 0

-- no source above: the first one is among the first n words
first_none : (ss ls : List ℕ) → Zeros 0 ss → first_live ss ls ≡ false
first_none [] ls z = refl
first_none (s ∷ ss) [] z = refl
first_none (s ∷ ss) (l ∷ ls) z =
    let above = first_live ss ls in
    ap (λ (w : ℕ). ahead 64 above (bit w) (bit l) 0) (z 0 (omega arith)) ∙ ahead_none 64 above (bit 0) (bit l) 0 (λ y h k t. no_bit y t)
    ∙ first_none ss ls (λ i h. z (suc i) (omega arith))

first_cut : (n : ℕ) (ss ls : List ℕ) → Zeros n ss → first_live ss ls ≡ first_live (take n ss) (take n ls)
first_cut zero ss ls z = first_none ss ls z
first_cut (suc n) [] ls z = refl
first_cut (suc n) (s ∷ ss) [] z = refl
first_cut (suc n) (s ∷ ss) (l ∷ ls) z = ap (λ (above : Bool). ahead 64 above (bit s) (bit l) 0) (first_cut n ss ls (λ i h. z (suc i) (omega arith)))

take_return : (n : ℕ) (ss ts ls : List ℕ) → Zeros n ss → take n (return_words ss ts ls) ≡ return_words (take n ss) (take n ts) (take n ls)
take_return zero ss ts ls z = refl
take_return (suc n) [] ts ls z = refl
take_return (suc n) (s ∷ ss) [] ls z = refl
take_return (suc n) (s ∷ ss) (t ∷ ts) [] z = refl
take_return (suc n) (s ∷ ss) (t ∷ ts) (l ∷ ls) z =
    let up : Zeros n ss = λ i h. z (suc i) (omega arith) in
    ap₂ (λ (above : Bool) (ws : List ℕ). back_word above s t l ∷ ws) (first_cut n ss ls up) (take_return n ss ts ls up)

-- no target above: nothing is added there
no_target : (above : Bool) (s l : ℕ) → back_word above s 0 l ≡ 0
no_target above s l =
    mask_same 64 (λ x. bit 0 x && ahead 64 above (bit s) (bit l) x) (λ x. false) (λ x h. ap (λ (b : Bool). b && ahead 64 above (bit s) (bit l) x) (bit_zero x))

return_above : (n : ℕ) (ss ts ls live : List ℕ) → Zeros n ts → length live ≤ length ss → length live ≤ length ts → length live ≤ length ls
    → drop n (or_words live (return_words ss ts ls)) ≡ drop n live
return_above n ss ts ls [] z h k l = refl
return_above n [] ts ls (x ∷ live) z h k l = absurd (omega arith)
return_above n (s ∷ ss) [] ls (x ∷ live) z h k l = absurd (omega arith)
return_above n (s ∷ ss) (t ∷ ts) [] (x ∷ live) z h k l = absurd (omega arith)
return_above zero (s ∷ ss) (t ∷ ts) (y ∷ ls) (x ∷ live) z h k l =
    let above = first_live ss ls in
    ap₂ (λ (w : ℕ) (ws : List ℕ). bit_or x w ∷ ws) (ap (λ (w : ℕ). back_word above s w y) (z 0 (omega arith)) ∙ no_target above s y)
    (return_above zero ss ts ls live (λ i a. z (suc i) (omega arith)) (omega arith) (omega arith) (omega arith))
    ∙ ap (λ (w : ℕ). w ∷ live) (or_zero_r x)
return_above (suc n) (s ∷ ss) (t ∷ ts) (y ∷ ls) (x ∷ live) z h k l =
    return_above n ss ts ls live (λ i a. z (suc i) (omega arith)) (omega arith) (omega arith) (omega arith)

-- rows that are equal from word n on are the same exactly if their first n words are
same_cut : (n : ℕ) (xs ys : List ℕ) → drop n xs ≡ drop n ys → same_words xs ys ≡ same_words (take n xs) (take n ys)
same_cut n xs ys e =
    same_truth (same_words xs ys) (same_words (take n xs) (take n ys))
    (λ t. (same_exactly (take n xs) (take n ys)).1 (ap (take n) ((same_exactly xs ys).0 t)))
    (λ t. (same_exactly xs ys).1 (sym (take-append-drop n xs) ∙ ap₂ ◌++◌ ((same_exactly (take n xs) (take n ys)).0 t) e ∙ take-append-drop n ys))

-- ---- THE BACK EDGES of the depths below d: none stands above the first n words, and their rows are as long as the start's
pub record Low (n d : ℕ) (M : Masks) : Type 0 where
  pub clear : (k j : ℕ) → k < d → j < 2 → Zeros n (M.back_mask k j)
  pub long : (k j : ℕ) → k < d → j < 2 → length M.start_mask ≤ length (M.back_mask k j)

returns_above : (n d : ℕ) (M : Masks) → Low n d M → (k : ℕ) → k ≤ d → (first live : List ℕ) → length live ≤ length M.start_mask → length live ≤ length first
    → drop n (returns_words M k first live) ≡ drop n live
returns_above n d M L zero h first live l i = refl
returns_above n d M L (suc k) h first live l i =
    let ss = M.back_mask k 0 in
    let ts = M.back_mask k 1 in
    let s = each_short bit_or live (return_words ss ts first) in
    returns_above n d M L k (omega arith) first (or_words live (return_words ss ts first)) (omega arith) (omega arith)
    ∙ return_above n ss ts first live (L.clear k 1 h (omega arith)) (omega (arith, L.long k 0 h (omega arith))) (omega (arith, L.long k 1 h (omega arith))) i

-- WITHOUT A BACK EDGE one round is all
pub one_round : (d : ℕ) (M : Masks) → Low 0 d M → (live : List ℕ) → length live ≤ length M.start_mask → close_words M d live ≡ pass_words M d live
one_round d M L live h =
    let first = pass_words M d live in
    let more = returns_words M d first first in
    ap (λ (b : Bool). cond b first (pass_words M d more))
    (same_true more first (returns_above 0 d M L d (omega arith) first first (le_trans (pass_short M d live) h) (omega arith)))

-- and of masks M of which the first n words are N's
pub record BackCut (n d : ℕ) (M N : Masks) : Type 0 where
  pub backs : (k j : ℕ) → k < d → j < 2 → take n (M.back_mask k j) ≡ N.back_mask k j
  pub low : Low n d M

module _ (n d : ℕ) (M N : Masks) (B : BackCut n d M N) where
  take_returns : (k : ℕ) → k ≤ d → (first live : List ℕ) → take n (returns_words M k first live) ≡ returns_words N k (take n first) (take n live)
  take_returns zero h first live = refl
  take_returns (suc k) h first live =
      let ss = M.back_mask k 0 in
      let ts = M.back_mask k 1 in
      take_returns k (omega arith) first (or_words live (return_words ss ts first))
      ∙ ap (returns_words N k (take n first)) (take_each _ n live (return_words ss ts first)
      ∙ ap (or_words (take n live)) (take_return n ss ts first (B.low.clear k 0 h (omega arith))
      ∙ ap₂ (λ (x y : List ℕ). return_words x y (take n first)) (B.backs k 0 h (omega arith)) (B.backs k 1 h (omega arith))))

  -- both rounds, by what the passes make
  pub rounds_cut : ((live : List ℕ) → take n (pass_words M d live) ≡ pass_words N d (take n live)) → (live : List ℕ) → length live ≤ length M.start_mask
      → take n (close_words M d live) ≡ close_words N d (take n live)
  rounds_cut pass live h =
      let first = pass_words M d live in
      let more = returns_words M d first first in
      let alike = take_returns d (omega arith) first first in
      let same = same_cut n more first (returns_above n d M B.low d (omega arith) first first (le_trans (pass_short M d live) h) (omega arith)) in
      picked (same_words more first) first (pass_words M d more)
      ∙ ap₂ (λ (b : Bool) (r : List ℕ). cond b (take n first) r) same (pass more)
      ∙ ap (λ (ws : List ℕ). cond (same_words ws (take n first)) (take n first) (pass_words N d ws)) alike
      ∙ ap (second_round N d) (pass live)
    where
      picked : (b : Bool) (x y : List ℕ) → take n (cond b x y) ≡ cond b (take n x) (take n y)
      picked true x y = refl
      picked false x y = refl
