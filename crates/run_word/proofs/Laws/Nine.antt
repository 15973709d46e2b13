-- THE NINE MASKS OF A DEPTH in a table of work: which one a number picks, and the table filled from the front.
use Rattle.std.proofs.Common.{◌≡◌, ℕ, ◌+◌, ◌*◌, ◌/◌, ◌%◌, ◌<◌, ◌≤◌, Bool, true, false, cond, eqb, ltb, ◌≢◌, List, length, get_or, set, sym, ap, ◌∙◌, ap₂, arith, ltb→lt, lt→ltb, get_or-set_other, get_or-set_same, below_more}
use Rattle.model.proofs.Laws.Bool.{is_not, is_true, unequal}
use Rattle.run_word.specs.One.{of_nine}

below : (m n : ℕ) → m < n → ltb m n ≡ true
below m n h = is_true (ltb m n) (lt→ltb m n h)

not_below : (m n : ℕ) → n ≤ m → ltb m n ≡ false
not_below m n h = is_not (ltb m n) (λ t. let l = ltb→lt m n t in absurd (omega arith))

-- ---- by the tests that code makes
module _ {A : Type 0} (j : ℕ) (scatter gather less propagate : A) where
  abbrev pick : Bool → Bool → Bool → A
  pick a b c = cond a scatter (cond b gather (cond c less propagate))

  pub nine_scatter : j < 3 → scatter ≡ of_nine j scatter gather less propagate
  nine_scatter h = sym (ap (λ (a : Bool). pick a (ltb j 6) (eqb j 7)) (below j 3 h))

  pub nine_gather : 3 ≤ j → j < 6 → gather ≡ of_nine j scatter gather less propagate
  nine_gather h l = sym (ap₂ (λ (a b : Bool). pick a b (eqb j 7)) (not_below j 3 h) (below j 6 l))

  last_three : 6 ≤ j → cond (eqb j 7) less propagate ≡ of_nine j scatter gather less propagate
  last_three h = sym (ap₂ (λ (a b : Bool). pick a b (eqb j 7)) (not_below j 3 (omega arith)) (not_below j 6 h))

  pub nine_less : 6 ≤ j → j ≡ 7 → less ≡ of_nine j scatter gather less propagate
  nine_less h e = sym (ap (λ (c : Bool). cond c less propagate) (ap (λ (i : ℕ). eqb i 7) e)) ∙ last_three h

  pub nine_propagate : 6 ≤ j → j ≢ 7 → propagate ≡ of_nine j scatter gather less propagate
  nine_propagate h e = sym (ap (λ (c : Bool). cond c less propagate) (unequal j 7 e)) ∙ last_three h

-- ---- one entry more
pub entered_more : {A : Type 0} (none : A) (entry : ℕ → A) (table : List A) (i : ℕ) (v : A) → i < length table → ((x : ℕ) → x < i → get_or table x none ≡ entry x) → v ≡ entry i
    → (x : ℕ) → x < i + 1 → get_or (set table i v) x none ≡ entry x
entered_more none entry table i v l I e =
    below_more (λ (x : ℕ). get_or (set table i v) x none ≡ entry x) i (λ x h. get_or-set_other table i x v none (λ q. omega arith) ∙ I x h)
    (get_or-set_same table i v none l ∙ e)

-- ---- entry j of depth k
pub entered_at : {A : Type 0} (none : A) (entry : ℕ → ℕ → A) (table : List A) (d : ℕ) → ((i : ℕ) → i < 9 * (d + 1) → get_or table i none ≡ entry (i / 9) (i % 9))
    → (k j : ℕ) → k ≤ d → j < 9 → get_or table (9 * k + j) none ≡ entry k j
entered_at none entry table d I k j h l =
    let e : (9 * k + j) / 9 ≡ k = omega arith in
    let f : (9 * k + j) % 9 ≡ j = omega arith in
    I (9 * k + j) (omega arith) ∙ ap₂ entry e f
