-- A ROW FILLED FROM THE FRONT, word by word, is the whole when it is full. Every loop over the words cites this.
use Rattle.std.proofs.Common.{◌≡◌, ℕ, ◌+◌, ◌<◌, ◌≤◌, ◌⊎◌, List, length, get_or, take, set, sym, ap, ◌∙◌, subst, inl, inr, eq-or-lt_of_le, arith, length-set, length-take-le, get_or-set_other, get_or-take, get_or-set_same, ext_get_or}
use Rattle.mask.specs.Rows.{Upto}

-- the row has n words, and its first i are those of the whole
pub record Filled (n : ℕ) (whole row : List ℕ) (i : ℕ) : Type 0 where
  pub within : i ≤ n
  pub long : length row ≡ n
  pub front : (k : ℕ) → k < i → get_or row k 0 ≡ get_or whole k 0

module _ {n : ℕ} {whole row : List ℕ} where
  pub filled_none : length row ≡ n → Filled n whole row 0
  filled_none e = record { within = omega arith; long = e; front = λ k h. absurd (omega arith) }

module _ {n : ℕ} {whole row : List ℕ} {i : ℕ} (F : Filled n whole row i) where
  -- the word at i is right already
  pub filled_next : i < n → get_or row i 0 ≡ get_or whole i 0 → Filled n whole row (i + 1)
  filled_next h e = record { within = omega arith; long = F.long; front = λ k l. go k (eq-or-lt_of_le (let m : k ≤ i = omega arith in m)) }
    where
      go : (k : ℕ) → (k ≡ i) ⊎ (k < i) → get_or row k 0 ≡ get_or whole k 0
      go k (inl q) = subst (λ (j : ℕ). get_or row j 0 ≡ get_or whole j 0) (sym q) e
      go k (inr l) = F.front k l

  -- a store at i changes nothing before
  filled_store : (v : ℕ) → Filled n whole (set row i v) i
  filled_store v = record {
    within = F.within;
    long = length-set row i v ∙ F.long;
    front = λ k l. get_or-set_other row i k v 0 (λ q. omega arith) ∙ F.front k l;
  }

  pub filled_all : n ≤ i → length whole ≡ n → row ≡ whole
  filled_all h e = ext_get_or 0 row whole (F.long ∙ sym e) (λ k l. F.front k (omega (arith, F.long)))

-- the word at i is stored
pub filled_more : {n : ℕ} {whole row : List ℕ} {i : ℕ} (v : ℕ) → Filled n whole row i → i < n → v ≡ get_or whole i 0
    → Filled n whole (set row i v) (i + 1)
filled_more {row = row} {i = i} v F h e = filled_next (filled_store F v) h (get_or-set_same row i v 0 (omega (arith, F.long)) ∙ e)

-- the first n words, where the loop ran to n or to the end of a row of eight
pub filled_take : {whole row : List ℕ} {i n stop : ℕ} → Filled 8 whole row i → length whole ≡ 8 → Upto n stop → stop ≤ i → take n row ≡ take n whole
filled_take {whole} {row} {i} {n} {stop} F e u h = go u.1
  where
    go : (stop ≡ n) ⊎ (stop ≡ 8) → take n row ≡ take n whole
    go (inr q) = ap (take n) (filled_all F (omega arith) e)
    go (inl q) =
        let a : length (take n row) ≡ n = length-take-le n row (omega (arith, F.long, u.0)) in
        let b : length (take n whole) ≡ n = length-take-le n whole (omega (arith, u.0)) in
        ext_get_or 0 (take n row) (take n whole) (a ∙ sym b)
        (λ k l. let m : k < n = omega (arith, a) in get_or-take n row k 0 m ∙ F.front k (omega arith) ∙ sym (get_or-take n whole k 0 m))
