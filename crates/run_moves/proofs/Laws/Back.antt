-- THE BACK STEP, WORD BY WORD FROM THE HIGHEST DOWN: what a row gives from word i on is made of its words from i on, and what goes down from there is
-- whether their first source is live. Where no source is live, or every target is, nothing is added.
use mathlib.Core.Path.{◌≡◌, refl, sym, ap, ap₂, ◌∙◌}
use mathlib.Core.Bool.{Bool, false}
use mathlib.Core.List.{List, [], ◌∷◌}
use Prim.Native.Nat.{ℕ, zero, suc, ◌-◌, ◌≤◌, ◌<◌}
use native.Mathlib.Omega.{arith}
use lib.Bits.{bit_or}
use lib.ListN.{drop, get_or, length, length-set, set, take}
use lib.Seq.{drop-set-lt, get_or-set_same, slice, slice-cons, take-set-lt}
use Rattle.model.specs.Bits.{bit}
use Rattle.model.specs.Models.Run.{ahead, back_word, first_live, return_words}
use Rattle.model.specs.Models.Words.{Fit, or_words}
use Rattle.run_back.proofs.Laws.Adds.{adds_held, adds_none, no_source}
use Rattle.run_moves.specs.Sets.{Apart, Holds}

-- ---- the loop: the words from i up to m are made, and `above` is what they hand down
pub record Led (m : ℕ) (ss ts ls row : List ℕ) (above : Bool) (i : ℕ) : Type 0 where
  pub within : i ≤ m
  pub long : length row ≡ 8
  pub made : slice i m row ≡ return_words (slice i m ss) (slice i m ts) (slice i m ls)
  pub handed : above ≡ first_live (slice i m ss) (slice i m ls)

-- the words from j on, with word j stored
stored : (m j v : ℕ) (row : List ℕ) → j < m → m ≤ length row → slice j m (set row j v) ≡ v ∷ slice (suc j) m row
stored m j v row h k =
    slice-cons j m (set row j v) 0 h (omega (arith, length-set row j v))
    ∙ ap₂ (λ (x : ℕ) (l : List ℕ). x ∷ l) (get_or-set_same row j v 0 (omega arith))
    (ap (drop (suc j)) (take-set-lt m row j v h) ∙ drop-set-lt (suc j) (take m row) j v (omega arith))

module _ {m : ℕ} {ss ts ls row : List ℕ} {above : Bool} {i : ℕ} (L : Led m ss ts ls row above i) (few : m ≤ 8)
    (hs : length ss ≡ 8) (ht : length ts ≡ 8) (hl : length ls ≡ 8) where
  pub led_more : {v : ℕ} {first : Bool} → 0 < i → let j = i - 1 in v ≡ back_word above (get_or ss j 0) (get_or ts j 0) (get_or ls j 0)
      → first ≡ ahead 64 above (bit (get_or ss j 0)) (bit (get_or ls j 0)) 0 → Led m ss ts ls (set row j v) first j
  led_more {v} {first} h e f = record {
    within = omega (arith, L.within);
    long = length-set row j v ∙ L.long;
    made = stored m j v row less (omega (arith, L.long))
        ∙ ap₂ (λ (x : ℕ) (l : List ℕ). x ∷ l) (e ∙ ap (λ (b : Bool). back_word b s t l) hands) (ap (λ (k : ℕ). slice k m row) next ∙ L.made ∙ ap (λ (k : ℕ). return_words (slice k m ss) (slice k m ts) (slice k m ls)) (sym next))
        ∙ sym (ap₂ (λ (x y : List ℕ). return_words x y (slice j m ls)) (cut ss hs) (cut ts ht) ∙ ap (return_words (s ∷ slice (suc j) m ss) (t ∷ slice (suc j) m ts)) (cut ls hl));
    handed = f ∙ ap (λ (b : Bool). ahead 64 b (bit s) (bit l) 0) hands ∙ sym (ap₂ first_live (cut ss hs) (cut ls hl));
  }
    where
      j : ℕ
      j = i - 1

      s : ℕ
      s = get_or ss j 0

      t : ℕ
      t = get_or ts j 0

      l : ℕ
      l = get_or ls j 0

      less : j < m
      less = omega (arith, L.within)

      next : suc j ≡ i
      next = omega arith

      cut : (xs : List ℕ) → length xs ≡ 8 → slice j m xs ≡ get_or xs j 0 ∷ slice (suc j) m xs
      cut xs e = slice-cons j m xs 0 less (omega arith)

      hands : above ≡ first_live (slice (suc j) m ss) (slice (suc j) m ls)
      hands = L.handed ∙ ap (λ (k : ℕ). first_live (slice k m ss) (slice k m ls)) (sym next)

-- ---- NOTHING IS ADDED without a live source
first_none : (n : ℕ) (ss ls : List ℕ) → Apart n ss ls → first_live (take n ss) (take n ls) ≡ false
first_none zero ss ls A = refl
first_none (suc n) [] ls A = refl
first_none (suc n) (s ∷ ss) [] A = refl
first_none (suc n) (s ∷ ss) (l ∷ ls) A =
    ap (λ (b : Bool). ahead 64 b (bit s) (bit l) 0) (first_none n ss ls (λ i h. A (suc i) (omega arith))) ∙ no_source s l (A 0 (omega arith)) 0

pub return_none : (n : ℕ) (ss ts ls live : List ℕ) → length ss ≡ length live → length ts ≡ length live → length ls ≡ length live → Apart n ss ls
    → or_words (take n live) (return_words (take n ss) (take n ts) (take n ls)) ≡ take n live
return_none zero ss ts ls live hs ht hl A = refl
return_none (suc n) ss ts ls [] hs ht hl A = refl
return_none (suc n) [] ts ls (v ∷ live) hs ht hl A = absurd (omega arith)
return_none (suc n) (s ∷ ss) [] ls (v ∷ live) hs ht hl A = absurd (omega arith)
return_none (suc n) (s ∷ ss) (t ∷ ts) [] (v ∷ live) hs ht hl A = absurd (omega arith)
return_none (suc n) (s ∷ ss) (t ∷ ts) (l ∷ ls) (v ∷ live) hs ht hl A =
    let rest : Apart n ss ls = λ i h. A (suc i) (omega arith) in
    ap₂ (λ (x : ℕ) (xs : List ℕ). x ∷ xs)
    (ap (λ (b : Bool). bit_or v (back_word b s t l)) (first_none n ss ls rest) ∙ adds_none s l (A 0 (omega arith)) v t)
    (return_none n ss ts ls live (omega arith) (omega arith) (omega arith) rest)

-- nor where every target is live
pub return_held : (n : ℕ) (ss ts ls live : List ℕ) → length ss ≡ length live → length ts ≡ length live → length ls ≡ length live → Fit live → Holds n live ts
    → or_words (take n live) (return_words (take n ss) (take n ts) (take n ls)) ≡ take n live
return_held zero ss ts ls live hs ht hl F H = refl
return_held (suc n) ss ts ls [] hs ht hl F H = refl
return_held (suc n) [] ts ls (v ∷ live) hs ht hl F H = absurd (omega arith)
return_held (suc n) (s ∷ ss) [] ls (v ∷ live) hs ht hl F H = absurd (omega arith)
return_held (suc n) (s ∷ ss) (t ∷ ts) [] (v ∷ live) hs ht hl F H = absurd (omega arith)
return_held (suc n) (s ∷ ss) (t ∷ ts) (l ∷ ls) (v ∷ live) hs ht hl F H =
    ap₂ (λ (x : ℕ) (xs : List ℕ). x ∷ xs) (adds_held (first_live (take n ss) (take n ls)) s t l v F.0 (H 0 (omega arith)))
    (return_held n ss ts ls live (omega arith) (omega arith) (omega arith) F.1 (λ i h. H (suc i) (omega arith)))
