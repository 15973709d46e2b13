-- PROPAGATE'S MASKS JOINED WORD BY WORD: the words before word n of the nine depths' masks are joined, those from n on are as they were, and so are all
-- words of other masks.
use mathlib.Core.Path.{◌≡◌, sym, ap, ap₂, ◌∙◌, subst}
use mathlib.Core.List.{List, []}
use Prim.Native.Nat.{ℕ, ◌+◌, ◌*◌, ◌/◌, ◌%◌, ◌≤◌, ◌<◌}
use native.Mathlib.Omega.{arith}
use borrow.Author.Count.{below_more}
use lib.ListN.{get_or, length, length-set, set}
use lib.Seq.{ext_get_or, get_or-set_other, get_or-set_same}
use Rattle.model.specs.Models.Words.{each_word}
use Rattle.model.proofs.Words.Operations.{each_at, each_length}
use Rattle.tokens_masks.specs.Joins.{Either, Join, join_tables, join_word, Only}
use Rattle.tokens_masks.specs.Masks.{block_plane, Joined, place_of, planes, row_in, row_number, table_in}
use Rattle.tokens_masks.proofs.InWords.{row_long, row_word, table_long, table_row}
use Rattle.tokens_masks.proofs.Joins.{joined_at, length_joined}

-- where word n of the blocks stands; the sources are 8 words after it, the targets 16
abbrev at : ℕ → ℕ
at n = place_of (n / 8) block_plane (n % 8)

-- word n of the three masks is joined; it is as it was
pub record Now (r ms : List ℕ) (n : ℕ) : Type 0 where
  pub block : get_or ms (at n) 0 ≡ join_word Either (get_or r (at n + 8) 0) (get_or r (at n + 16) 0)
  pub source : get_or ms (at n + 8) 0 ≡ join_word Only (get_or r (at n + 8) 0) (get_or r (at n + 16) 0)
  pub target : get_or ms (at n + 16) 0 ≡ join_word Only (get_or r (at n + 16) 0) (get_or r (at n + 8) 0)

pub record Still (r ms : List ℕ) (n : ℕ) : Type 0 where
  pub source : get_or ms (at n + 8) 0 ≡ get_or r (at n + 8) 0
  pub target : get_or ms (at n + 16) 0 ≡ get_or r (at n + 16) 0

-- a word of other masks
abbrev Elsewhere : ℕ → Type 0
Elsewhere x = (m i : ℕ) → i < 3 → x ≡ at m + 8 * i → ⊥

pub record Joining (r : List ℕ) (n : ℕ) (ms : List ℕ) : Type 0 where
  pub long : length ms ≡ 936
  pub others : (x : ℕ) → Elsewhere x → get_or ms x 0 ≡ get_or r x 0
  pub done : (m : ℕ) → m < n → Now r ms m
  pub todo : (m : ℕ) → n ≤ m → m < 72 → Still r ms m

-- ---- three words stored
module _ (ms : List ℕ) (a u v w : ℕ) (fits : a + 16 < length ms) where
  abbrev one : List ℕ
  one = set ms a u

  abbrev two : List ℕ
  two = set one (a + 8) v

  abbrev after : List ℕ
  after = set two (a + 16) w

  two_long : length two ≡ length ms
  two_long = length-set one (a + 8) v ∙ length-set ms a u

  stored_long : length after ≡ length ms
  stored_long = length-set two (a + 16) w ∙ two_long

  stored_block : get_or after a 0 ≡ u
  stored_block =
      get_or-set_other two (a + 16) a w 0 (λ q. omega arith) ∙ get_or-set_other one (a + 8) a v 0 (λ q. omega arith) ∙ get_or-set_same ms a u 0 (omega arith)

  stored_source : get_or after (a + 8) 0 ≡ v
  stored_source = get_or-set_other two (a + 16) (a + 8) w 0 (λ q. omega arith) ∙ get_or-set_same one (a + 8) v 0 (omega (arith, length-set ms a u))

  stored_target : get_or after (a + 16) 0 ≡ w
  stored_target = get_or-set_same two (a + 16) w 0 (omega (arith, two_long))

  stored_other : (j : ℕ) → (j ≡ a → ⊥) → (j ≡ a + 8 → ⊥) → (j ≡ a + 16 → ⊥) → get_or after j 0 ≡ get_or ms j 0
  stored_other j d e f = get_or-set_other two (a + 16) j w 0 f ∙ get_or-set_other one (a + 8) j v 0 e ∙ get_or-set_other ms a j u 0 d

-- ---- the step
module _ {r : List ℕ} {n : ℕ} {ms : List ℕ} (J : Joining r n ms) (h : n < 72) where
  abbrev l : ℕ
  l = get_or ms (at n + 8) 0

  abbrev e : ℕ
  e = get_or ms (at n + 16) 0

  fits : at n + 16 < length ms
  fits = omega (arith, J.long)

  -- the words after the three are stored, by the place of the block's word
  abbrev stored : ℕ → List ℕ
  stored a =
      let l' = get_or ms (a + 8) 0 in
      let e' = get_or ms (a + 16) 0 in
      set (set (set ms a (join_word Either l' e')) (a + 8) (join_word Only l' e')) (a + 16) (join_word Only e' l')

  abbrev next : List ℕ
  next = stored (at n)

  same : (j : ℕ) → (j ≡ at n → ⊥) → (j ≡ at n + 8 → ⊥) → (j ≡ at n + 16 → ⊥) → get_or next j 0 ≡ get_or ms j 0
  same = stored_other ms (at n) (join_word Either l e) (join_word Only l e) (join_word Only e l) fits

  -- words of another place are elsewhere
  apart : (m i j : ℕ) → i < 3 → j < 3 → (m ≡ n → ⊥) → at m + 8 * i ≡ at n + 8 * j → ⊥
  apart m i j hi hj d q = d (omega arith)

  kept : (m i : ℕ) → i < 3 → (m ≡ n → ⊥) → get_or next (at m + 8 * i) 0 ≡ get_or ms (at m + 8 * i) 0
  kept m i hi d =
      same (at m + 8 * i) (λ q. apart m i 0 hi (omega arith) d (omega arith)) (λ q. apart m i 1 hi (omega arith) d (omega arith))
      (λ q. apart m i 2 hi (omega arith) d (omega arith))

  kept_block : (m : ℕ) → (m ≡ n → ⊥) → get_or next (at m) 0 ≡ get_or ms (at m) 0
  kept_block m d = let z : at m ≡ at m + 8 * 0 = omega arith in ap (λ (j : ℕ). get_or next j 0) z ∙ kept m 0 (omega arith) d ∙ ap (λ (j : ℕ). get_or ms j 0) (sym z)

  one_more : Joining r (n + 1) next
  one_more = record {
    long = stored_long ms (at n) (join_word Either l e) (join_word Only l e) (join_word Only e l) fits ∙ J.long;
    others = λ x E. same x (λ q. E n 0 (omega arith) (omega arith)) (λ q. E n 1 (omega arith) (omega arith)) (λ q. E n 2 (omega arith) (omega arith)) ∙ J.others x E;
    done =
        below_more (Now r next) n
        (λ m k. let N = J.done m k in
        let d : m ≡ n → ⊥ = λ q. omega arith in
        record { block = kept_block m d ∙ N.block; source = kept m 1 (omega arith) d ∙ N.source; target = kept m 2 (omega arith) d ∙ N.target })
        (let S = J.todo n (omega arith) h in
        record {
          block =
              stored_block ms (at n) (join_word Either l e) (join_word Only l e) (join_word Only e l) fits ∙ ap₂ (join_word Either) S.source S.target;
          source = stored_source ms (at n) (join_word Either l e) (join_word Only l e) (join_word Only e l) fits ∙ ap₂ (join_word Only) S.source S.target;
          target = stored_target ms (at n) (join_word Either l e) (join_word Only l e) (join_word Only e l) fits ∙ ap₂ (join_word Only) S.target S.source;
        });
    todo = λ m k z. let S = J.todo m (omega arith) z in
        let d : m ≡ n → ⊥ = λ q. omega arith in
        record { source = kept m 1 (omega arith) d ∙ S.source; target = kept m 2 (omega arith) d ∙ S.target };
  }

  pub joining_step : (a : ℕ) → a ≡ at n → Joining r (n + 1) (stored a)
  joining_step a q = subst (λ (i : ℕ). Joining r (n + 1) (stored i)) (sym q) one_more

-- ---- the tables
module _ (r ms : List ℕ) (lr : length r ≡ 936) (lm : length ms ≡ 936) where
  module _ (J : Join) (i u v : ℕ) (hi : i < 3) (hu : u < 3) (hv : v < 3)
      (words : (m : ℕ) → m < 72 → get_or ms (at m + 8 * i) 0 ≡ join_word J (get_or r (at m + 8 * u) 0) (get_or r (at m + 8 * v) 0)) where
    row : (k : ℕ) → k < 9 → row_in ms (row_number k (block_plane + i)) ≡ each_word (join_word J) (row_in r (row_number k (block_plane + u))) (row_in r (row_number k (block_plane + v)))
    row k hk =
        ext_get_or 0 (row_in ms (row_number k (block_plane + i))) (each_word (join_word J) a b) (long_m ∙ sym (each_length (join_word J) a b (long_a ∙ sym long_b) ∙ long_a))
        (λ j h. go j (omega (arith, long_m)))
      where
        a : List ℕ
        a = row_in r (row_number k (block_plane + u))

        b : List ℕ
        b = row_in r (row_number k (block_plane + v))

        long_m : length (row_in ms (row_number k (block_plane + i))) ≡ 8
        long_m = row_long ms (row_number k (block_plane + i)) (omega arith)

        long_a : length a ≡ 8
        long_a = row_long r (row_number k (block_plane + u)) (omega arith)

        long_b : length b ≡ 8
        long_b = row_long r (row_number k (block_plane + v)) (omega arith)

        here : (x j : ℕ) → j < 8 → place_of k (block_plane + x) j ≡ at (8 * k + j) + 8 * x
        here x j h = omega arith

        go : (j : ℕ) → j < 8 → get_or (row_in ms (row_number k (block_plane + i))) j 0 ≡ get_or (each_word (join_word J) a b) j 0
        go j h =
            row_word ms (row_number k (block_plane + i)) j h
            ∙ ap (λ (x : ℕ). get_or ms x 0) (here i j h)
            ∙ words (8 * k + j) (omega arith)
            ∙ ap₂ (λ (x y : ℕ). join_word J (get_or r x 0) (get_or r y 0)) (sym (here u j h)) (sym (here v j h))
            ∙ ap₂ (join_word J) (sym (row_word r (row_number k (block_plane + u)) j h)) (sym (row_word r (row_number k (block_plane + v)) j h))
            ∙ each_at (join_word J) a b j (long_a ∙ sym long_b) (omega (arith, long_a))

    joined_table : table_in ms (block_plane + i) ≡ join_tables J (table_in r (block_plane + u)) (table_in r (block_plane + v))
    joined_table =
        ext_get_or [] (table_in ms (block_plane + i)) (join_tables J (table_in r (block_plane + u)) (table_in r (block_plane + v)))
        (table_long ms (block_plane + i) ∙ sym (length_joined J (table_in r (block_plane + u)) (table_in r (block_plane + v)) same ∙ table_long r (block_plane + u)))
        (λ k h. go k (omega (arith, table_long ms (block_plane + i))))
      where
        same : length (table_in r (block_plane + u)) ≡ length (table_in r (block_plane + v))
        same = table_long r (block_plane + u) ∙ sym (table_long r (block_plane + v))

        go : (k : ℕ) → k < 9 → get_or (table_in ms (block_plane + i)) k [] ≡ get_or (join_tables J (table_in r (block_plane + u)) (table_in r (block_plane + v))) k []
        go k h =
            table_row ms (block_plane + i) k h
            ∙ row k h
            ∙ ap₂ (each_word (join_word J)) (sym (table_row r (block_plane + u) k h)) (sym (table_row r (block_plane + v) k h))
            ∙ joined_at J (table_in r (block_plane + u)) (table_in r (block_plane + v)) k same (omega (arith, table_long r (block_plane + u)))

  same_table : ((x : ℕ) → Elsewhere x → get_or ms x 0 ≡ get_or r x 0) → (i : ℕ) → i < planes → ((c : ℕ) → c < 3 → i ≡ block_plane + c → ⊥) → table_in ms i ≡ table_in r i
  same_table others i hi d =
      ext_get_or [] (table_in ms i) (table_in r i) (table_long ms i ∙ sym (table_long r i)) (λ k h. go k (omega (arith, table_long ms i)))
    where
      away : (k j : ℕ) → j < 8 → Elsewhere (place_of k i j)
      away k j hj m c hc q = d c hc (omega arith)

      go : (k : ℕ) → k < 9 → get_or (table_in ms i) k [] ≡ get_or (table_in r i) k []
      go k h =
          let long_m = row_long ms (row_number k i) (omega arith) in
          table_row ms i k h
          ∙ ext_get_or 0 (row_in ms (row_number k i)) (row_in r (row_number k i)) (long_m ∙ sym (row_long r (row_number k i) (omega arith)))
          (λ j l. let hj : j < 8 = omega (arith, long_m) in row_word ms (row_number k i) j hj ∙ others (place_of k i j) (away k j hj) ∙ sym (row_word r (row_number k i) j hj))
          ∙ sym (table_row r i k h)

pub joining_end : {r : List ℕ} {n : ℕ} {ms : List ℕ} → length r ≡ 936 → Joining r n ms → 72 ≤ n → Joined r ms
joining_end {r} {n} {ms} l J h = record {
  block =
      joined_table r ms l J.long Either 0 1 2 (omega arith) (omega arith) (omega arith)
      (λ m k. ap (λ (x : ℕ). get_or ms x 0) (let z : at m + 8 * 0 ≡ at m = omega arith in z) ∙ (J.done m (omega arith)).block);
  source = joined_table r ms l J.long Only 1 1 2 (omega arith) (omega arith) (omega arith) (λ m k. (J.done m (omega arith)).source);
  target = joined_table r ms l J.long Only 2 2 1 (omega arith) (omega arith) (omega arith) (λ m k. (J.done m (omega arith)).target);
  below = λ i k. same_table r ms l J.long J.others i (omega arith) (λ c hc q. omega arith);
  above = λ i k m. same_table r ms l J.long J.others i m (λ c hc q. omega arith);
}
