-- THE LOOPS OVER THE STATES: the rows of what reaches each state, one state after another, and what reaches a state of a row.
use mathlib.Core.Path.{◌≡◌, refl, sym, ap, ap₂, ◌∙◌, subst}
use mathlib.Core.Logic.{◌⊎◌, inl, inr, ◌↔◌}
use mathlib.Core.Bool.{Bool, true, false, not, ◌&&◌, and-false, true≢false}
use mathlib.Core.List.{List, []}
use Prim.Native.Nat.{ℕ, ◌+◌, ◌-◌, ◌*◌, ◌/◌, ◌%◌, ◌^◌, ◌≤◌, ◌<◌}
use native.Mathlib.Nat.{eq-or-lt_of_le}
use native.Mathlib.Omega.{arith}
use borrow.Author.Tests.{eq-eqb}
use lib.Bits.{bit_and}
use lib.Count.{count_trailing_zeros}
use lib.Dec.{T, eqb, eqb→eq}
use lib.ListN.{get_or, get_or-replicate, length, length-set, replicate, set}
use lib.Pow.{pow-lt}
use lib.Seq.{get_or-set_other, get_or-set_same}
use Rattle.mask.proofs.Laws.Bits.{none_bit}
use Rattle.model.specs.Bits.{bit}
use Rattle.model.specs.Models.Words.{Fit, value}
use Rattle.model.proofs.Laws.Bits.{bit_zero}
use Rattle.model.proofs.Laws.Bool.{and_split, le_or_lt}
use Rattle.model.proofs.Words.Lowest.{Lowest, lowest_bit, without, without_bit, without_less}
use Rattle.model.proofs.Words.RowBits.{row_bit}
use Rattle.run_edges.specs.Reach.{reach_words}
use Rattle.run_edges.proofs.Laws.Sets.{bit_below}
use Rattle.spelling_propose.specs.Work.{EitherSays, Has, IntoSays, IntoWordSays, NoteSays, OriginsSays, WithSays}

-- no row of zeros has a state
pub none_has : (x : ℕ) → Has (replicate 8 0) x → ⊥
none_has x h = subst T (none_bit 8 x) h

-- below the next state lies that state, or one below it
split : {x p : ℕ} → x < p + 1 → (x ≡ p) ⊎ (x < p)
split {x} {p} h = eq-or-lt_of_le (let l : x ≤ p = omega arith in l)

-- ---- ONE STATE into the rows of what it reaches
module _ (before : List (List ℕ)) (q : ℕ) (reached : List ℕ) where
  abbrev Gains : (old new : List ℕ) (p : ℕ) → Type 0
  Gains old new p = (x : ℕ) → Has new x ↔ (Has old x ⊎ ((x ≡ q) × Has reached p))

  -- the rows below p have it, the others are as they were
  pub record Noting (p : ℕ) (rows : List (List ℕ)) : Type 0 where
    pub long : length rows ≡ length before
    pub below : (x : ℕ) → x < p → Gains (get_or before x []) (get_or rows x []) x
    pub above : (x : ℕ) → p ≤ x → get_or rows x [] ≡ get_or before x []

  pub noting_none : Noting 0 before
  noting_none = record { long = refl; below = λ x h. absurd (omega arith); above = λ x h. refl }

  module _ {p : ℕ} {rows : List (List ℕ)} (N : Noting p rows) where
    pub noting_more : p < length before → bit (value reached) p ≡ true → (row : List ℕ) → WithSays (get_or rows p []) q row → Noting (p + 1) (set rows p row)
    noting_more l r row W = record {
      long = length-set rows p row ∙ N.long;
      below = λ x h. go x (split h);
      above = λ x h. get_or-set_other rows p x row [] (λ e. omega arith) ∙ N.above x (omega arith);
    }
      where
        here : Gains (get_or before p []) row p
        here x = (
          λ h. elim ((W x).0 h) [
            | inl k ↦ inl (subst (λ (w : List ℕ). Has w x) (N.above p (omega arith)) k)
            | inr k ↦ inr (k, subst T (sym r) tt)
          ],
          λ h. elim h [
            | inl k ↦ (W x).1 (inl (subst (λ (w : List ℕ). Has w x) (sym (N.above p (omega arith))) k))
            | inr k ↦ (W x).1 (inr k.0)
          ],
        )

        go : (x : ℕ) → (x ≡ p) ⊎ (x < p) → Gains (get_or before x []) (get_or (set rows p row) x []) x
        go x (inl e) =
            subst (λ (y : ℕ). Gains (get_or before y []) (get_or (set rows p row) y []) y) (sym e)
            (subst (λ (w : List ℕ). Gains (get_or before p []) w p) (sym (get_or-set_same rows p row [] (omega (arith, N.long)))) here)
        go x (inr k) = subst (λ (w : List ℕ). Gains (get_or before x []) w x) (sym (get_or-set_other rows p x row [] (λ e. omega arith))) (N.below x k)

    pub noting_same : bit (value reached) p ≡ false → Noting (p + 1) rows
    noting_same r = record { long = N.long; below = λ x h. go x (split h); above = λ x h. N.above x (omega arith) }
      where
        here : Gains (get_or before p []) (get_or rows p []) p
        here x = (
          λ h. inl (subst (λ (w : List ℕ). Has w x) (N.above p (omega arith)) h),
          λ h. elim h [
            | inl k ↦ subst (λ (w : List ℕ). Has w x) (sym (N.above p (omega arith))) k
            | inr k ↦ absurd (subst T r k.1)
          ],
        )

        go : (x : ℕ) → (x ≡ p) ⊎ (x < p) → Gains (get_or before x []) (get_or rows x []) x
        go x (inl e) = subst (λ (y : ℕ). Gains (get_or before y []) (get_or rows y []) y) (sym e) here
        go x (inr k) = N.below x k

    pub noting_all : {count : ℕ} → count ≤ p → NoteSays before q reached count rows
    noting_all l = record { long = N.long; rows = λ x h. N.below x (omega arith) }

-- ---- STATE AFTER STATE: the rows have those below q that reach
module _ (image : List ℕ) (count : ℕ) where
  pub record Found (q : ℕ) (rows : List (List ℕ)) : Type 0 where
    pub long : length rows ≡ 512
    pub has : (p : ℕ) → p < count → (x : ℕ) → Has (get_or rows p []) x ↔ ((x < q) × Has (reach_words image x) p)

  pub found_none : count ≤ 512 → Found 0 (replicate 512 (replicate 8 0))
  found_none l = record {
    long = refl;
    has = λ p h x. (
      λ k. absurd (none_has x (subst (λ (w : List ℕ). Has w x) (get_or-replicate 512 p (replicate 8 0) [] (omega arith)) k)),
      λ k. absurd (omega (arith, k.0)),
    );
  }

  pub found_more : {q : ℕ} {rows after : List (List ℕ)} → Found q rows → (reached : List ℕ) → reached ≡ reach_words image q → NoteSays rows q reached count after
      → Found (q + 1) after
  found_more {q} {rows} {after} F reached e N = record { long = N.long ∙ F.long; has = λ p h x. (there p h x, back p h x) }
    where
      there : (p : ℕ) → p < count → (x : ℕ) → Has (get_or after p []) x → (x < q + 1) × Has (reach_words image x) p
      there p h x k = elim ((N.rows p h x).0 k) [
        | inl m ↦ let f = (F.has p h x).0 m in (omega (arith, f.0), f.1)
        | inr m ↦ let d = m.0 in (omega arith, subst (λ (y : ℕ). Has (reach_words image y) p) (sym d) (subst (λ (w : List ℕ). Has w p) e m.1))
      ]

      go : (p : ℕ) → p < count → (x : ℕ) → (x ≡ q) ⊎ (x < q) → Has (reach_words image x) p → Has (get_or after p []) x
      go p h x (inl d) m = (N.rows p h x).1 (inr (d, subst (λ (w : List ℕ). Has w p) (sym e) (subst (λ (y : ℕ). Has (reach_words image y) p) d m)))
      go p h x (inr k) m = (N.rows p h x).1 (inl ((F.has p h x).1 (k, m)))

      back : (p : ℕ) → p < count → (x : ℕ) → (x < q + 1) × Has (reach_words image x) p → Has (get_or after p []) x
      back p h x (k, m) = go p h x (split k) m

  pub found_all : {q : ℕ} {rows : List (List ℕ)} → Found q rows → q ≡ count → OriginsSays image count rows
  found_all {q} {rows} F e p h x =
      subst (λ (n : ℕ). Has (get_or rows p []) x ↔ ((x < n) × Has (reach_words image x) p)) e (F.has p h x)

-- ---- WHAT REACHES A STATE OF ONE WORD: the origins of its states that are not left in the word are in r
module _ (origins : List (List ℕ)) (word at : ℕ) (before : List ℕ) where
  abbrev From : (gone : ℕ → Type 0) (q : ℕ) → Type 0
  From gone q = (j : ℕ) × (j < 64) × T (bit word j) × gone j × Has (get_or origins (at + j) []) q

  pub record Taking (left : ℕ) (r : List ℕ) : Type 0 where
    pub fits : left < 2 ^ 64
    pub of_word : (j : ℕ) → T (bit left j) → T (bit word j)
    pub has : (q : ℕ) → Has r q ↔ (Has before q ⊎ From (λ j. bit left j ≡ false) q)

  pub taking_none : word < 2 ^ 64 → Taking word before
  taking_none f = record {
    fits = f;
    of_word = λ j b. b;
    has = λ q. (
      λ h. inl h,
      λ h. elim h [
        | inl k ↦ k
        | inr (j, l, b, out, k) ↦ absurd (subst T out b)
      ],
    );
  }

  -- the lowest state that is left is taken
  module _ {left : ℕ} {r : List ℕ} (K : Taking left r) (some : left ≡ 0 → ⊥) where
    abbrev first : ℕ
    first = count_trailing_zeros 64 left

    lowest : (first < 64) × Lowest left first
    lowest = lowest_bit 64 left (omega (arith, some)) K.fits

    pub inside : first < 64
    inside = lowest.0

    -- what is left, as the code has it
    abbrev cleared : ℕ
    cleared = bit_and left (2 ^ 64 - 1 - 1 * 2 ^ first % 2 ^ 64)

    is_cleared : cleared ≡ without left first
    is_cleared =
        let p : 2 ^ first < 2 ^ 64 = pow-lt inside in
        let e : 1 * 2 ^ first % 2 ^ 64 ≡ 2 ^ first = omega arith in
        ap (λ (n : ℕ). bit_and left (2 ^ 64 - 1 - n)) e

    pub taking_less : cleared < left
    taking_less = subst (λ (n : ℕ). n < left) (sym is_cleared) (without_less left first K.fits inside lowest.1.here)

    pub taking_more : (s : List ℕ) → EitherSays r (get_or origins (at + first) []) s → Taking cleared s
    taking_more s E = record {
      fits = omega (arith, taking_less, K.fits);
      of_word = λ j b. K.of_word j (and_split (bit left j) (not (eqb j first)) (subst T (bits j) b)).0;
      has = λ q. (there q, back q);
    }
      where
        bits : (j : ℕ) → bit cleared j ≡ (bit left j && not (eqb j first))
        bits j = ap (λ (n : ℕ). bit n j) is_cleared ∙ without_bit left first K.fits inside j

        there : (q : ℕ) → Has s q → Has before q ⊎ From (λ j. bit cleared j ≡ false) q
        there q h = elim ((E q).0 h) [
          | inl k ↦ elim ((K.has q).0 k) [
            | inl m ↦ inl m
            | inr (j, l, b, out, m) ↦ inr (j, l, b, bits j ∙ rw out, m)
          ]
          | inr k ↦ inr (first, inside, K.of_word first (subst T (sym lowest.1.here) tt), bits first ∙ rw (eq-eqb first first refl, and-false (bit left first)), k)
        ]

        back : (q : ℕ) → Has before q ⊎ From (λ j. bit cleared j ≡ false) q → Has s q
        back q (inl h) = (E q).1 (inl ((K.has q).1 (inl h)))
        back q (inr (j, l, b, out, k)) = go (bit left j) refl (eqb j first) refl
          where
            go : (c : Bool) → bit left j ≡ c → (d : Bool) → eqb j first ≡ d → Has s q
            go false e d f = (E q).1 (inl ((K.has q).1 (inr (j, l, b, e, k))))
            go true e true f = (E q).1 (inr (subst (λ (x : ℕ). Has (get_or origins (at + x) []) q) (eqb→eq j first (subst T (sym f) tt)) k))
            go true e false f = absurd (true≢false (sym (bits j ∙ rw (e, f)) ∙ out))

  -- none is left: all of the word's have been met
  pub taking_all : {left : ℕ} {r : List ℕ} → Taking left r → left ≡ 0 → IntoWordSays origins word at before r
  taking_all {left} K e q = (
    λ h. elim ((K.has q).0 h) [
      | inl m ↦ inl m
      | inr (j, l, b, out, m) ↦ inr (j, l, b, m)
    ],
    λ h. elim h [
      | inl m ↦ (K.has q).1 (inl m)
      | inr (j, l, b, m) ↦ (K.has q).1 (inr (j, l, b, ap (λ (n : ℕ). bit n j) e ∙ bit_zero j, m))
    ],
  )

-- ---- AND OF A ROW: word after word
module _ (origins : List (List ℕ)) (row : List ℕ) where
  pub record Gathered (i : ℕ) (r : List ℕ) : Type 0 where
    pub has : (q : ℕ) → Has r q ↔ ((p : ℕ) × (p < 64 * i) × Has row p × Has (get_or origins p []) q)

  pub gathered_none : Gathered 0 (replicate 8 0)
  gathered_none = record { has = λ q. (λ h. absurd (none_has q h), λ (x, l, h, k). absurd (omega arith)) }

  module _ (fit : Fit row) where
    -- bit j of word i is state 64 i + j
    at_word : (i j : ℕ) → j < 64 → bit (value row) (64 * i + j) ≡ bit (get_or row i 0) j
    at_word i j l =
        let d : (64 * i + j) / 64 ≡ i = omega arith in
        let m : (64 * i + j) % 64 ≡ j = omega arith in
        row_bit row (64 * i + j) fit ∙ ap₂ (λ (a b : ℕ). bit (get_or row a 0) b) d m

    pub gathered_more : {i : ℕ} {r : List ℕ} → Gathered i r → (s : List ℕ) → IntoWordSays origins (get_or row i 0) (64 * i) r s → Gathered (i + 1) s
    gathered_more {i} {r} G s W = record { has = λ q. (there q, λ (p, l, h, k). back q p l h k (le_or_lt (64 * i) p)) }
      where
        there : (q : ℕ) → Has s q → (p : ℕ) × (p < 64 * (i + 1)) × Has row p × Has (get_or origins p []) q
        there q h = elim ((W q).0 h) [
          | inl k ↦ let g = (G.has q).0 k in (g.0, omega (arith, g.1), g.2, g.3)
          | inr (j, l, b, k) ↦ (64 * i + j, omega arith, subst T (sym (at_word i j l)) b, k)
        ]

        back : (q p : ℕ) → p < 64 * (i + 1) → Has row p → Has (get_or origins p []) q → (64 * i ≤ p) ⊎ (p < 64 * i) → Has s q
        back q p l h k (inl m) =
            let e : p ≡ 64 * i + (p - 64 * i) = omega arith in
            let d : p - 64 * i < 64 = omega arith in
            (W q).1 (inr (p - 64 * i, d, subst T (at_word i (p - 64 * i) d) (subst (Has row) e h), subst (λ (x : ℕ). Has (get_or origins x []) q) e k))
        back q p l h k (inr m) = (W q).1 (inl ((G.has q).1 (p, m, h, k)))

    pub gathered_all : length row ≡ 8 → {i : ℕ} {r : List ℕ} → Gathered i r → 8 ≤ i → IntoSays origins row r
    gathered_all long G l q = (
      λ h. let g = (G.has q).0 h in (g.0, g.2, g.3),
      λ (p, h, k). (G.has q).1 (p, omega (arith, bit_below row p fit long h), h, k),
    )
