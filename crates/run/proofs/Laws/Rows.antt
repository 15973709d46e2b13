-- MASKS AS THEY LIE IN WORDS, with zeros above, and in series: a row made word by word has at most eight, and each fits in 64 bits; the masks of a series
-- made row by row.
use mathlib.Core.Path.{◌≡◌, refl, sym, ap, ◌∙◌}
use mathlib.Core.List.{List, [], ◌∷◌, ◌++◌, append_assoc}
use Prim.Native.Nat.{ℕ, zero, suc, ◌+◌, ◌-◌, ◌*◌, ◌≤◌, ◌<◌}
use native.Mathlib.Nat.{add-suc, add-zero, le_of_suc-le-suc, not-suc-le-zero, suc-add}
use native.Mathlib.Omega.{arith}
use lib.ListN.{drop, get_or, length, length-append, length-drop, length-replicate, replicate, set, take}
use lib.Seq.{get_or-drop, length-take-le, set_at, take-suc}
use Rattle.model.specs.Models.Words.{Fit}
use Rattle.model.proofs.Image.Address.{part_fits}
use Rattle.run_moves.proofs.Laws.Less.{fit_take}
use Rattle.run.specs.Work.{row_at, rows_from, series_at}

-- ---- a row made word by word: what was made so far is the row of fewer words
pub row_more : (ws : List ℕ) (at i : ℕ) → i < 8 → at + i < length ws → set (row_at ws at i) i (get_or ws (at + i) 0) ≡ row_at ws at (i + 1)
row_more ws at i h l =
    ap (λ (n : ℕ). set (own ++ replicate n 0) i v) left
    ∙ set_at own 0 rest v i (length-take-le i (drop at ws) (omega (arith, length-drop at ws)))
    ∙ sym (append_assoc own (v ∷ []) rest)
    ∙ ap (λ (x : List ℕ). x ++ rest) (ap (λ (w : ℕ). own ++ (w ∷ [])) (sym (get_or-drop at ws i 0)) ∙ sym (take-suc (drop at ws) i 0 (omega (arith, length-drop at ws))))
    ∙ ap (λ (n : ℕ). take n (drop at ws) ++ rest) one
  where
    own : List ℕ
    own = take i (drop at ws)

    v : ℕ
    v = get_or ws (at + i) 0

    rest : List ℕ
    rest = replicate (8 - (i + 1)) 0

    left : 8 - i ≡ suc (8 - (i + 1))
    left = omega arith

    one : suc i ≡ i + 1
    one = omega arith

-- a word of zeros
pub no_word : (n i : ℕ) → get_or (replicate {A = ℕ} n 0) i 0 ≡ 0
no_word zero i = refl
no_word (suc n) zero = refl
no_word (suc n) (suc i) = no_word n i

take_short : (n : ℕ) (xs : List ℕ) → length (take n xs) ≤ n
take_short zero xs = omega arith
take_short (suc n) [] = omega arith
take_short (suc n) (x ∷ xs) = let l = take_short n xs in omega arith

pub row_short : (ws : List ℕ) (at W : ℕ) → W ≤ 8 → length (row_at ws at W) ≤ 8
row_short ws at W h =
    omega (arith, length-append (take W (drop at ws)) (replicate (8 - W) 0), take_short W (drop at ws), length-replicate {A = ℕ} (8 - W) 0)

pub row_long : (ws : List ℕ) (at W : ℕ) → W ≤ 8 → at + W ≤ length ws → length (row_at ws at W) ≡ 8
row_long ws at W h l =
    omega (
      arith,
      length-append (take W (drop at ws)) (replicate (8 - W) 0),
      length-take-le W (drop at ws) (omega (arith, length-drop at ws)),
      length-replicate {A = ℕ} (8 - W) 0,
    )

-- zeros above
pub row_clear : (ws : List ℕ) (at W i : ℕ) → W ≤ i → get_or (row_at ws at W) i 0 ≡ 0
row_clear ws at W i h = go (take W (drop at ws)) i (omega (arith, take_short W (drop at ws)))
  where
    go : (own : List ℕ) (i : ℕ) → length own ≤ i → get_or (own ++ replicate (8 - W) 0) i 0 ≡ 0
    go [] i l = no_word (8 - W) i
    go (x ∷ own) zero l = absurd (omega arith)
    go (x ∷ own) (suc i) l = go own i (omega arith)

-- ---- the words of an image fit in 64 bits, and so do those of its masks
fit_drop : (n : ℕ) (xs : List ℕ) → Fit xs → Fit (drop n xs)
fit_drop zero xs F = F
fit_drop (suc n) [] F = tt
fit_drop (suc n) (x ∷ xs) F = fit_drop n xs F.1

fit_pad : (xs : List ℕ) (n : ℕ) → Fit xs → Fit (xs ++ replicate n 0)
fit_pad [] zero F = tt
fit_pad [] (suc n) F = (omega arith, fit_pad [] n tt)
fit_pad (x ∷ xs) n F = (F.0, fit_pad xs n F.1)

pub fit_at : (ws : List ℕ) (at W : ℕ) → Fit ws → Fit (row_at ws at W)
fit_at ws at W F = fit_pad (take W (drop at ws)) (8 - W) (fit_take W (drop at ws) (fit_drop at ws F))

-- ---- rows one after another
rows_length : (n k : ℕ) (f : ℕ → List ℕ) → length (rows_from n k f) ≡ n
rows_length zero k f = refl
rows_length (suc n) k f = ap suc (rows_length n (suc k) f)

rows_last : (n k : ℕ) (f : ℕ → List ℕ) → rows_from (suc n) k f ≡ rows_from n k f ++ (f (k + n) ∷ [])
rows_last zero k f = ap (λ (i : ℕ). f i ∷ []) (sym (add-zero k))
rows_last (suc n) k f =
    ap (λ (l : List (List ℕ)). f k ∷ l)
    (rows_last n (suc k) f ∙ ap (λ (i : ℕ). rows_from n (suc k) f ++ (f i ∷ [])) (suc-add k n ∙ sym (add-suc k n)))

rows_at : (n a : ℕ) (f : ℕ → List ℕ) (r : List (List ℕ)) (k : ℕ) → k < n → get_or (rows_from n a f ++ r) k [] ≡ f (a + k)
rows_at zero a f r k h = absurd (not-suc-le-zero h)
rows_at (suc n) a f r zero h = ap f (sym (add-zero a))
rows_at (suc n) a f r (suc k) h = rows_at n (suc a) f r k (le_of_suc-le-suc h) ∙ ap f (suc-add a k ∙ sym (add-suc a k))

-- ---- the masks of a series: each, and one more
module _ (ws : List ℕ) (at W j : ℕ) where
  abbrev row_of : ℕ → List ℕ
  row_of k = row_at ws (at + W * (3 * k + j)) W

  pub series-row : (n k : ℕ) → k < n → get_or (series_at ws at W n j) k [] ≡ row_of k
  series-row n k h = rows_at n 0 row_of (replicate (9 - n) (replicate 8 0)) k h ∙ ap row_of (let e : 0 + k ≡ k = omega arith in e)

  pub series_more : (n : ℕ) → n < 9 → set (series_at ws at W n j) n (row_of n) ≡ series_at ws at W (n + 1) j
  series_more n h =
      ap (λ (i : ℕ). set (rows_from n 0 row_of ++ replicate i (replicate 8 0)) n (row_of n)) left
      ∙ set_at (rows_from n 0 row_of) (replicate 8 0) rest (row_of n) n (rows_length n 0 row_of)
      ∙ sym (append_assoc (rows_from n 0 row_of) (row_of n ∷ []) rest)
      ∙ ap (λ (l : List (List ℕ)). l ++ rest) (ap (λ (i : ℕ). rows_from n 0 row_of ++ (row_of i ∷ [])) none ∙ sym (rows_last n 0 row_of))
      ∙ ap (λ (i : ℕ). rows_from i 0 row_of ++ rest) one
    where
      rest : List (List ℕ)
      rest = replicate (9 - (n + 1)) (replicate 8 0)

      left : 9 - n ≡ suc (9 - (n + 1))
      left = omega arith

      none : n ≡ 0 + n
      none = omega arith

      one : suc n ≡ n + 1
      one = omega arith

-- ---- each lies within the section
pub within_series : (W n k j : ℕ) → k < n → j < 3 → W * (3 * k + j) + W ≤ W * (3 * n)
within_series W n k j h l = part_fits W {k = 3 * k + j} {n = 3 * n} (omega arith)
