-- THE BACK STEP ON ROWS OF WORDS: a bit of the result is that target's bit and the bit of the first source at or past it, which may stand in a word above.
use mathlib.Core.Path.{◌≡◌, refl, sym, ap, ap₂, ◌∙◌, subst}
use mathlib.Core.Logic.{◌⊎◌, inl, inr}
use mathlib.Core.Bool.{Bool, false, ◌&&◌, cond}
use mathlib.Core.List.{List, [], ◌∷◌}
use Prim.Native.Nat.{ℕ, zero, suc, ◌+◌, ◌-◌, ◌^◌, ◌≤◌, ◌<◌}
use native.Mathlib.Nat.{eq-or-lt_of_le, le_refl}
use native.Mathlib.Omega.{arith}
use lib.Dec.{T}
use lib.ListN.{length}
use Rattle.model.specs.Bits.{bit}
use Rattle.model.specs.Models.Run.{ahead, back_word, first_live, return_words}
use Rattle.model.specs.Models.Words.{Fit, value}
use Rattle.model.proofs.Laws.Bits.{no_bit}
use Rattle.model.proofs.Laws.Bool.{is_not, is_true, le_or_lt}
use Rattle.model.proofs.Words.Bits.{bit_high, bit_mask, mask_lt}
use Rattle.model.proofs.Words.RowBits.{row_high, row_low}

-- no state from x up to q passes the test
abbrev pub Clear : (c : ℕ → Bool) (x q : ℕ) → Type 0
Clear c x q = (y : ℕ) → x ≤ y → y < q → T (c y) → ⊥

-- the first state ahead of x that passes the test c decides; where none does, what is known above
pub ahead_first : (n : ℕ) (above : Bool) (c f : ℕ → Bool) (x q : ℕ) → x ≤ q → q < x + n → T (c q) → Clear c x q → ahead n above c f x ≡ f q
ahead_first zero above c f x q h l t g = absurd (omega arith)
ahead_first (suc n) above c f x q h l t g =
    let rest = ahead n above c f (suc x) in
    elim (eq-or-lt_of_le h) [
      | inl e ↦ ap (λ (b : Bool). cond b (f x) rest) (is_true (c x) (subst (λ (y : ℕ). T (c y)) (sym e) t)) ∙ ap f e
      | inr k ↦ ap (λ (b : Bool). cond b (f x) rest) (is_not (c x) (g x (le_refl x) k)) ∙ ahead_first n above c f (suc x) q k (omega arith) t (λ y a b. g y (omega arith) b)
    ]

pub ahead_none : (n : ℕ) (above : Bool) (c f : ℕ → Bool) (x : ℕ) → Clear c x (x + n) → ahead n above c f x ≡ above
ahead_none zero above c f x g = refl
ahead_none (suc n) above c f x g =
    ap (λ (b : Bool). cond b (f x) (ahead n above c f (suc x))) (is_not (c x) (g x (le_refl x) (omega arith)))
    ∙ ahead_none n above c f (suc x) (λ y a b. g y (omega arith) (omega arith))

-- a place lies in the low word or above it
split : (x : ℕ) → (x < 64) ⊎ ((y : ℕ) × (x ≡ 64 + y))
split x = elim (le_or_lt 64 x) [ inl h ↦ inr (x - 64, omega arith) | inr h ↦ inl h ]

-- a word has no source where its row has none up to a place above it
none_here : (s : ℕ) (ss : List ℕ) → s < 2 ^ 64 → (x q y : ℕ) → 64 ≤ q → Clear (bit (value (s ∷ ss))) x q → x ≤ y → T (bit s y) → ⊥
none_here s ss f x q y h g a u = elim (le_or_lt 64 y) [ inl i ↦ subst T (bit_high 64 s y f i) u | inr i ↦ g y a (omega arith) (subst T (sym (row_low s ss y i)) u) ]

-- ---- THE FIRST SOURCE from a place x of a row's low word on, where the words above it are known; and of a whole row
module _ (s l : ℕ) (ss ls : List ℕ) (F : s < 2 ^ 64) (G : l < 2 ^ 64)
    (rest : (z : ℕ) → T (bit (value ss) z) → Clear (bit (value ss)) 0 z → first_live ss ls ≡ bit (value ls) z) where
  word_at : (x q : ℕ) → x < 64 → x ≤ q → T (bit (value (s ∷ ss)) q) → Clear (bit (value (s ∷ ss))) x q
      → ahead 64 (first_live ss ls) (bit s) (bit l) x ≡ bit (value (l ∷ ls)) q
  word_at x q h k t g =
      let above = first_live ss ls in
      elim (split q) [
        | inl i ↦ ahead_first 64 above (bit s) (bit l) x q k (omega arith) (subst T (row_low s ss q i) t) (λ y a b u. g y a b (subst T (sym (row_low s ss y (omega arith))) u))
            ∙ sym (row_low l ls q i)
        | inr (z, d) ↦ ahead_none 64 above (bit s) (bit l) x (λ y a b u. none_here s ss F x q y (omega arith) g a u)
            ∙ rest z (subst T (ap (bit (value (s ∷ ss))) d ∙ row_high s ss z F) t) (λ y i j u. g (64 + y) (omega arith) (omega arith) (subst T (sym (row_high s ss y F)) u))
            ∙ sym (ap (bit (value (l ∷ ls))) d ∙ row_high l ls z G)
      ]

first_at : (ss ls : List ℕ) → length ss ≡ length ls → Fit ss → Fit ls → (q : ℕ) → T (bit (value ss) q) → Clear (bit (value ss)) 0 q
    → first_live ss ls ≡ bit (value ls) q
first_at [] ls e F G q t g = absurd (no_bit q t)
first_at (s ∷ ss) [] e F G q t g = absurd (omega arith)
first_at (s ∷ ss) (l ∷ ls) e F G q t g =
    word_at s l ss ls F.0 G.0 (λ z u h. first_at ss ls (omega arith) F.1 G.1 z u h) 0 q (omega arith) (omega arith) t g

-- ---- THE RESULT: as long as the rows, each of its words a word
pub return_long : (ss ts ls : List ℕ) → length ss ≡ length ts → length ss ≡ length ls → length (return_words ss ts ls) ≡ length ss
return_long [] ts ls e d = refl
return_long (s ∷ ss) [] ls e d = absurd (omega arith)
return_long (s ∷ ss) (t ∷ ts) [] e d = absurd (omega arith)
return_long (s ∷ ss) (t ∷ ts) (l ∷ ls) e d = ap suc (return_long ss ts ls (omega arith) (omega arith))

pub return_fit : (ss ts ls : List ℕ) → Fit (return_words ss ts ls)
return_fit [] ts ls = tt
return_fit (s ∷ ss) [] ls = tt
return_fit (s ∷ ss) (t ∷ ts) [] = tt
return_fit (s ∷ ss) (t ∷ ts) (l ∷ ls) = (mask_lt 64 (λ x. bit t x && ahead 64 (first_live ss ls) (bit s) (bit l) x), return_fit ss ts ls)

-- what is no target is not added
pub return_off : (ss ts ls : List ℕ) → Fit ts → (x : ℕ) → bit (value ts) x ≡ false → bit (value (return_words ss ts ls)) x ≡ false
return_off [] ts ls F x e = is_not (bit 0 x) (no_bit x)
return_off (s ∷ ss) [] ls F x e = is_not (bit 0 x) (no_bit x)
return_off (s ∷ ss) (t ∷ ts) [] F x e = is_not (bit 0 x) (no_bit x)
return_off (s ∷ ss) (t ∷ ts) (l ∷ ls) F x e =
    let new : ℕ → Bool = λ y. bit t y && ahead 64 (first_live ss ls) (bit s) (bit l) y in
    let w = back_word (first_live ss ls) s t l in
    elim (split x) [
      | inl h ↦ row_low w (return_words ss ts ls) x h ∙ bit_mask 64 x new h
          ∙ ap (λ (b : Bool). b && ahead 64 (first_live ss ls) (bit s) (bit l) x) (sym (row_low t ts x h) ∙ e)
      | inr (y, d) ↦ ap (bit (value (w ∷ return_words ss ts ls))) d ∙ row_high w (return_words ss ts ls) y (mask_lt 64 new)
          ∙ return_off ss ts ls F.1 y (sym (ap (bit (value (t ∷ ts))) d ∙ row_high t ts y F.0) ∙ e)
    ]

-- A TARGET IS ADDED EXACTLY IF ITS SOURCE IS LIVE
pub return-at : (ss ts ls : List ℕ) → length ss ≡ length ts → length ss ≡ length ls → Fit ss → Fit ts → Fit ls → (x q : ℕ) → x ≤ q → T (bit (value ss) q)
    → Clear (bit (value ss)) x q → bit (value (return_words ss ts ls)) x ≡ (bit (value ts) x && bit (value ls) q)
return-at [] ts ls e d F G H x q h t g = absurd (no_bit q t)
return-at (s ∷ ss) [] ls e d F G H x q h t g = absurd (omega arith)
return-at (s ∷ ss) (t ∷ ts) [] e d F G H x q h u g = absurd (omega arith)
return-at (s ∷ ss) (t ∷ ts) (l ∷ ls) e d F G H x q h u g =
    let new : ℕ → Bool = λ y. bit t y && ahead 64 (first_live ss ls) (bit s) (bit l) y in
    let w = back_word (first_live ss ls) s t l in
    elim (split x) [
      | inl k ↦ row_low w (return_words ss ts ls) x k ∙ bit_mask 64 x new k ∙ ap₂ ◌&&◌ (sym (row_low t ts x k)) (word_at s l ss ls F.0 H.0 (first_at ss ls (omega arith) F.1 H.1) x q k h u g)
      | inr (y, i) ↦
          let z = q - 64 in
          let j : q ≡ 64 + z = omega arith in
          ap (bit (value (w ∷ return_words ss ts ls))) i ∙ row_high w (return_words ss ts ls) y (mask_lt 64 new)
          ∙ return-at ss ts ls (omega arith) (omega arith) F.1 G.1 H.1 y z (omega arith) (subst T (ap (bit (value (s ∷ ss))) j ∙ row_high s ss z F.0) u)
          (λ v a b n. g (64 + v) (omega arith) (omega arith) (subst T (sym (row_high s ss v F.0)) n))
          ∙ sym (ap₂ ◌&&◌ (ap (bit (value (t ∷ ts))) i ∙ row_high t ts y G.0) (ap (bit (value (l ∷ ls))) j ∙ row_high l ls z H.0))
    ]
