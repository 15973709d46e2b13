-- A SECTION COMPARED PART BY PART WITH PARTS OF w WORDS EACH: part k stands w * k words after the first, so where it differs the section is not the parts
-- joined, and where none does it is.
use mathlib.Core.Path.{◌≡◌, sym, ap, ◌∙◌, subst}
use mathlib.Core.Logic.{◌⊎◌, inl, inr}
use mathlib.Core.Bool.{Bool, true, false}
use mathlib.Core.List.{List, ◌++◌}
use Prim.Native.Nat.{ℕ, zero, suc, ◌+◌, ◌-◌, ◌*◌, ◌≤◌, ◌<◌}
use native.Mathlib.Nat.{le_of_suc-le-suc, mul-add, mul-le-mul_left, mul-suc, mul-zero, not-suc-le-zero, zero-add}
use native.Mathlib.Omega.{arith}
use lib.Dec.{T}
use lib.ListN.{drop, get_or, take, length, length-drop, get_or-append}
use lib.Seq.{ext_get_or, get_or-append-add, get_or-drop, get_or-take, length-take-le}
use Rattle.model.specs.Image.{join}
use Rattle.model.specs.Models.Verdict.{same_words}
use Rattle.mask.proofs.Laws.Same.{same_exactly, same_false, same_true}
use Rattle.model.proofs.Image.Address.{part_fits}
use Rattle.image.proofs.Laws.Parts.{AllLong, length_joined}
use Rattle.model.proofs.Laws.Bool.{le_or_lt}
use Rattle.image_apart.specs.Work.{words_at}
-- Repeats: the section of the repeats beside the letters at the loops' places. Masks: the masks laid out of some planes for each depth.
pub mod Masks
pub mod Repeats

-- ---- word i of a section
module _ (ws : List ℕ) (at m : ℕ) where
  pub word_there : (i : ℕ) → i < m → get_or (words_at ws at m) i 0 ≡ get_or ws (at + i) 0
  word_there i h = get_or-take m (drop at ws) i 0 h ∙ get_or-drop at ws i 0

  pub length_there : at + m ≤ length ws → length (words_at ws at m) ≡ m
  length_there h = length-take-le m (drop at ws) (omega (arith, length-drop at ws))

  pub words_alike : (row : List ℕ) → at + m ≤ length ws → length row ≡ m → ((i : ℕ) → i < m → get_or ws (at + i) 0 ≡ get_or row i 0) → words_at ws at m ≡ row
  words_alike row h long each =
      ext_get_or 0 (words_at ws at m) row (length_there h ∙ sym long)
      (λ i l. let inside : i < m = omega (arith, length_there h, l) in
      word_there i inside ∙ each i inside)

-- ---- word j of part k
module _ (w : ℕ) (f : ℕ → List ℕ) where
  pub word_from : (n a k j : ℕ) → ((i : ℕ) → i < n → length (f (a + i)) ≡ w) → k < n → j < w
      → get_or (join n a f) (w * k + j) 0 ≡ get_or (f (a + k)) j 0
  word_from zero a k j long h l = absurd (not-suc-le-zero h)
  word_from (suc n) a zero j long h l =
      let e : w * 0 + j ≡ j = omega arith in
      let first : a + 0 ≡ a = omega arith in
      let long₀ : length (f a) ≡ w = ap (λ (i : ℕ). length (f i)) (sym first) ∙ long 0 (omega arith) in
      ap (λ (i : ℕ). get_or (f a ++ join n (suc a) f) i 0) e
      ∙ get_or-append (f a) (join n (suc a) f) 0 j (omega arith)
      ∙ ap (λ (i : ℕ). get_or (f i) j 0) (sym first)
  word_from (suc n) a (suc k) j long h l =
      let first : a + 0 ≡ a = omega arith in
      let long₀ : length (f a) ≡ w = ap (λ (i : ℕ). length (f i)) (sym first) ∙ long 0 (omega arith) in
      let e : w * suc k + j ≡ length (f a) + (w * k + j) = omega (arith, mul-suc w k) in
      let next : (i : ℕ) → suc a + i ≡ a + suc i = λ i. omega arith in
      ap (λ (i : ℕ). get_or (f a ++ join n (suc a) f) i 0) e
      ∙ get_or-append-add (f a) (join n (suc a) f) (w * k + j) 0
      ∙ word_from n (suc a) k j (λ i p. ap (λ (x : ℕ). length (f x)) (next i) ∙ long (suc i) (omega arith)) (le_of_suc-le-suc h) l
      ∙ ap (λ (i : ℕ). get_or (f i) j 0) (next k)

-- of a section of m words from a place on, beside n parts of w words, the first k parts are the same
pub record SameTo (ws : List ℕ) (at m w n : ℕ) (f : ℕ → List ℕ) (k : ℕ) : Type 0 where
  pub count : m ≡ w * n
  pub long : AllLong w n f
  pub fits : at + m ≤ length ws
  pub first : (i : ℕ) → i < w * k → get_or ws (at + i) 0 ≡ get_or (join n 0 f) i 0

pub same_none : {ws : List ℕ} {at m w n : ℕ} {f : ℕ → List ℕ} → m ≡ w * n → AllLong w n f → at + m ≤ length ws → SameTo ws at m w n f 0
same_none {w = w} count long fits = record { count = count; long = long; fits = fits; first = λ i h. absurd (omega (arith, mul-zero w, h)) }

module _ {ws : List ℕ} {at m w n : ℕ} {f : ℕ → List ℕ} {k : ℕ} (S : SameTo ws at m w n f k) where
  pub same-all : n ≤ k → same_words (words_at ws at m) (join n 0 f) ≡ true
  same-all h =
      same_true (words_at ws at m) (join n 0 f)
      (words_alike ws at m (join n 0 f) S.fits (length_joined w n f S.long ∙ sym S.count)
      (λ i inside. S.first i (omega (arith, S.count, inside, mul-le-mul_left w h))))

  module _ (part : k < n) where
    -- the part's words, and where they stand
    part_word : (j : ℕ) → j < w → get_or (join n 0 f) (w * k + j) 0 ≡ get_or (f k) j 0
    part_word j h =
        word_from w f n 0 k j (λ i p. ap (λ (x : ℕ). length (f x)) (zero-add i) ∙ S.long i p) part h
        ∙ ap (λ (i : ℕ). get_or (f i) j 0) (zero-add k)

    pub part_in : at + w * k + w ≤ length ws
    part_in = omega (arith, part_fits w part, S.count, S.fits)

    place : (j : ℕ) → get_or ws (at + w * k + j) 0 ≡ get_or ws (at + (w * k + j)) 0
    place j = let e : at + w * k + j ≡ at + (w * k + j) = omega arith in ap (λ (i : ℕ). get_or ws i 0) e

    pub same_more : words_at ws (at + w * k) w ≡ f k → SameTo ws at m w n f (k + 1)
    same_more e = record { count = S.count; long = S.long; fits = S.fits; first = λ i h. go i h (le_or_lt (w * k) i) }
      where
        go : (i : ℕ) → i < w * (k + 1) → (w * k ≤ i) ⊎ (i < w * k) → get_or ws (at + i) 0 ≡ get_or (join n 0 f) i 0
        go i h (inr l) = S.first i l
        go i h (inl l) =
            let inside : i - w * k < w = omega (arith, h, l, mul-add w k 1) in
            let its : w * k + (i - w * k) ≡ i = omega (arith, l) in
            subst (λ (x : ℕ). get_or ws (at + x) 0 ≡ get_or (join n 0 f) x 0) its
            (sym (word_there ws (at + w * k) w (i - w * k) inside ∙ place (i - w * k))
            ∙ ap (λ (us : List ℕ). get_or us (i - w * k) 0) e
            ∙ sym (part_word (i - w * k) inside))

    pub differ_here : (words_at ws (at + w * k) w ≡ f k → ⊥) → same_words (words_at ws at m) (join n 0 f) ≡ false
    differ_here d =
        same_false (words_at ws at m) (join n 0 f)
        (λ e. d (words_alike ws (at + w * k) w (f k) part_in (S.long k part)
        (λ j word. place j
        ∙ sym (word_there ws at m (w * k + j) (omega (arith, part_fits w part, S.count, word)))
        ∙ ap (λ (us : List ℕ). get_or us (w * k + j) 0) e
        ∙ part_word j word)))

    -- the same, by the test of the part
    pub passes : {same : Bool} → same ≡ same_words (words_at ws (at + w * k) w) (f k) → same ≡ true → SameTo ws at m w n f (k + 1)
    passes e t = same_more ((same_exactly (words_at ws (at + w * k) w) (f k)).0 (subst T (sym t ∙ e) tt))

    pub fails : {same : Bool} → same ≡ same_words (words_at ws (at + w * k) w) (f k) → same ≡ false → false ≡ same_words (words_at ws at m) (join n 0 f)
    fails e t = sym (differ_here (λ q. subst T (sym (same_true (words_at ws (at + w * k) w) (f k) q) ∙ sym e ∙ t) tt))
