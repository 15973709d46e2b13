-- GATHER IS AN ADDITION (document 01: "addition for gather"): where the live ends of alternatives are added to the blocks, the sum has the bit of a
-- union's end exactly if one of its alternatives' ends is live. For a block is all ones, and a carry runs through it from any bit added.
use mathlib.Core.Path.{◌≡◌, refl, sym, ap, ap₂, ◌∙◌, subst}
use mathlib.Core.Logic.{◌⊎◌, inl, inr, ◌↔◌}
use mathlib.Core.Bool.{Bool, true, false, ◌&&◌, ◌||◌, or-false, and-false}
use mathlib.Core.List.{List, [], ◌∷◌}
use Prim.Native.Nat.{ℕ, zero, suc, ◌≤◌, ◌<◌}
use native.Mathlib.Nat.{le_refl, eq-or-lt_of_le}
use native.Mathlib.Omega.{arith}
use lib.Dec.{T, eqb, leb, ltb, leb→le, le→leb, ltb→lt, lt→ltb}
use Rattle.model.specs.Lists.{All, any, within}
use Rattle.model.proofs.Laws.Bool.{and_both, and_split, is_not, is_true}
use Rattle.model.proofs.Words.Forks.{Forks, none_after, Sound, Union}
use Rattle.model.proofs.Words.Ripple.{carry, into, odd3, sum_bits}
use Rattle.model.proofs.Words.Runs.{run}

-- ---- through a block of ones a carry runs from any bit added
module _ (X Y : ℕ → Bool) (lo hi : ℕ) (ones : (j : ℕ) → lo ≤ j → j < hi → X j ≡ true) (none : into carry X Y false lo ≡ false) where
  abbrev Below : ℕ → Type 0
  Below j = (i : ℕ) × (lo ≤ i) × (i < j) × T (Y i)

  not_yet : (j : ℕ) → lo ≡ j → T (into carry X Y false j) → ⊥
  not_yet j e t = subst T none (subst (λ (x : ℕ). T (into carry X Y false x)) (sym e) t)

  block_in : (j : ℕ) → lo ≤ j → j ≤ hi → T (into carry X Y false j) → Below j
  block_in zero h k t = absurd (not_yet 0 (omega arith) t)
  block_in (suc j) h k t = elim (eq-or-lt_of_le h) [ inl e ↦ absurd (not_yet (suc j) e t) | inr l ↦ here (omega arith) (block_in j (omega arith) (omega arith)) ]
    where
      step : (y c : Bool) → T (carry true y c) → T y ⊎ T c
      step true c h = inl tt
      step false c h = inr h

      here : lo ≤ j → (T (into carry X Y false j) → Below j) → Below (suc j)
      here l ih =
          let one = subst (λ (x : Bool). T (carry x (Y j) (into carry X Y false j))) (ones j l k) t in
          elim (step (Y j) (into carry X Y false j) one) [ inl y ↦ (j, l, le_refl (suc j), y) | inr c ↦ (let b = ih c in (b.0, b.1, omega (arith, b.2), b.3)) ]

  block_out : (j : ℕ) → lo ≤ j → j ≤ hi → Below j → T (into carry X Y false j)
  block_out zero h k b = absurd (omega (arith, b.2))
  block_out (suc j) h k b =
      subst (λ (x : Bool). T (carry x (Y j) (into carry X Y false j))) (sym (ones j (omega (arith, b.1, b.2)) k))
      (elim (eq-or-lt_of_le b.2) [
        | inl e ↦ (let d : b.0 ≡ j = omega arith in own (Y j) (into carry X Y false j) (subst (λ (x : ℕ). T (Y x)) d b.3))
        | inr l ↦ old (Y j) (into carry X Y false j) (block_out j (omega (arith, b.1)) (omega arith) (b.0, b.1, omega arith, b.3))
      ])
    where
      own : (y c : Bool) → T y → T (carry true y c)
      own true c h = tt
      own false c h = absurd h

      old : (y c : Bool) → T c → T (carry true y c)
      old true c h = tt
      old false c h = h

-- ---- "block (every state from the first alternative's end to the union's end less 1), source (alternative ends), target (union ends)"
abbrev pub gather_block_of : List Union → ℕ → Bool
gather_block_of us x = any (λ u. leb u.first x && ltb x u.close) us

abbrev pub gather_source_of : List Union → ℕ → Bool
gather_source_of us x = any (λ u. within x u.ends) us

abbrev pub gather_target_of : List Union → ℕ → Bool
gather_target_of us x = any (λ u. eqb x u.close) us

no_block : (x a b : ℕ) (us : List Union) → x ≤ a → Forks a b us → gather_block_of us x ≡ false
no_block x a b us h A =
    none_after (λ u. leb u.first x && ltb x u.close) x a b us h A
    (λ u S l. is_not (leb u.first x && ltb x u.close)
    (λ t. omega (arith, S.opens, leb→le u.first x (and_split (leb u.first x) (ltb x u.close) t).0)))

no_source : (x a b : ℕ) (us : List Union) → x ≤ a → Forks a b us → gather_source_of us x ≡ false
no_source x a b us h A = none_after (λ u. within x u.ends) x a b us h A (λ u S l. is_not (within x u.ends) (λ t. omega (arith, S.opens, S.between x t)))

-- ---- the unions from state a on, where nothing is carried past a: X has their blocks, Y their sources among the live states D
module _ (D : ℕ → Bool) where
  abbrev pub Gathered : (X Y : ℕ → Bool) → Union → Type 0
  Gathered X Y u = T (sum_bits X Y u.close) ↔ ((x : ℕ) × T (D x) × T (within x u.ends))

  module _ (X Y : ℕ → Bool) where
    from : (a b : ℕ) (us : List Union) → Forks a b us → ((x : ℕ) → a < x → X x ≡ gather_block_of us x) → ((x : ℕ) → a < x → Y x ≡ (D x && gather_source_of us x))
        → into carry X Y false (suc a) ≡ false → All (Gathered X Y) us
    from a b [] A h_x h_y c = tt
    from a b (u ∷ us) A h_x h_y c = (
      (
        λ t. found (block_in X Y lo hi ones c_lo hi lo≤hi (le_refl hi) (subst T sum_hi t)),
        λ w. subst T (sym sum_hi) (block_out X Y lo hi ones c_lo hi lo≤hi (le_refl hi) (put w)),
      ),
      from hi b us A.2 X-rest Y-rest c_out,
    )
      where
        S : Sound u
        S = A.1

        lo : ℕ
        lo = u.first

        hi : ℕ
        hi = u.close

        a<lo : a < lo
        a<lo = omega (arith, A.0, S.opens)

        lo≤hi : lo ≤ hi
        lo≤hi = omega (arith, S.closes)

        block : ℕ → Bool
        block x = leb lo x && ltb x hi

        X-at : (x : ℕ) → a < x → x ≤ hi → X x ≡ block x
        X-at x h k = h_x x h ∙ ap (λ (n : Bool). block x || n) (no_block x hi b us k A.2) ∙ or-false (block x)

        Y-at : (x : ℕ) → a < x → x ≤ hi → Y x ≡ (D x && within x u.ends)
        Y-at x h k =
            h_y x h ∙ ap (λ (n : Bool). D x && (within x u.ends || n)) (no_source x hi b us k A.2) ∙ ap (λ (n : Bool). D x && n) (or-false (within x u.ends))

        outside : (x : ℕ) → (lo ≤ x → x < hi → ⊥) → block x ≡ false
        outside x n = is_not (block x) (λ t. let s = and_split (leb lo x) (ltb x hi) t in n (leb→le lo x s.0) (ltb→lt x hi s.1))

        X-out : (x : ℕ) → a < x → x ≤ hi → (lo ≤ x → x < hi → ⊥) → X x ≡ false
        X-out x h k n = X-at x h k ∙ outside x n

        Y-out : (x : ℕ) → a < x → x ≤ hi → (lo ≤ x → x < hi → ⊥) → Y x ≡ false
        Y-out x h k n = Y-at x h k ∙ ap (λ (n : Bool). D x && n) (is_not (within x u.ends) (λ t. n (S.between x t).0 (S.between x t).1)) ∙ and-false (D x)

        ones : (j : ℕ) → lo ≤ j → j < hi → X j ≡ true
        ones j h k = X-at j (omega arith) (omega arith) ∙ is_true (block j) (and_both (leb lo j) (ltb j hi) (le→leb lo j h) (lt→ltb j hi k))

        c_lo : into carry X Y false lo ≡ false
        c_lo =
            run carry X Y false false (suc a) lo c
            (λ j h k. ap₂ (λ (x y : Bool). carry x y false) (X-out j h (omega arith) (λ p q. omega arith)) (Y-out j h (omega arith) (λ p q. omega arith)))
            lo a<lo (le_refl lo)

        X-hi : X hi ≡ false
        X-hi = X-out hi (omega arith) (le_refl hi) (λ p q. omega arith)

        Y-hi : Y hi ≡ false
        Y-hi = Y-out hi (omega arith) (le_refl hi) (λ p q. omega arith)

        sum_hi : sum_bits X Y hi ≡ into carry X Y false hi
        sum_hi = ap₂ (λ (x y : Bool). odd3 x y (into carry X Y false hi)) X-hi Y-hi

        c_out : into carry X Y false (suc hi) ≡ false
        c_out = ap₂ (λ (x y : Bool). carry x y (into carry X Y false hi)) X-hi Y-hi

        found : Below X Y lo hi ones c_lo hi → (x : ℕ) × T (D x) × T (within x u.ends)
        found w =
            let s = and_split (D w.0) (within w.0 u.ends) (subst T (Y-at w.0 (omega (arith, w.1)) (omega (arith, w.2))) w.3) in
            (w.0, s.0, s.1)

        put : (x : ℕ) × T (D x) × T (within x u.ends) → Below X Y lo hi ones c_lo hi
        put w =
            let r = S.between w.0 w.2 in
            let added = and_both (D w.0) (within w.0 u.ends) w.1 w.2 in
            (w.0, r.0, r.1, subst T (sym (Y-at w.0 (omega (arith, r.0)) (omega (arith, r.1)))) added)

        X-rest : (x : ℕ) → hi < x → X x ≡ gather_block_of us x
        X-rest x h = h_x x (omega arith) ∙ ap (λ (n : Bool). n || gather_block_of us x) (outside x (λ p q. omega arith))

        Y-rest : (x : ℕ) → hi < x → Y x ≡ (D x && gather_source_of us x)
        Y-rest x h = h_y x (omega arith) ∙ ap (λ (n : Bool). D x && (n || gather_source_of us x)) (is_not (within x u.ends) (λ t. omega (arith, S.between x t)))

  -- THE THEOREM, for all unions of one depth
  pub gather : (b : ℕ) (us : List Union) → Forks 0 b us → All (Gathered (gather_block_of us) (λ x. D x && gather_source_of us x)) us
  gather b us A = from (gather_block_of us) (λ x. D x && gather_source_of us x) 0 b us A (λ x h. refl) (λ x h. refl) nothing
    where
      nothing : carry (gather_block_of us 0) (D 0 && gather_source_of us 0) false ≡ false
      nothing =
          ap₂ (λ (x y : Bool). carry x (D 0 && y) false) (no_block 0 0 b us (le_refl 0) A) (no_source 0 0 b us (le_refl 0) A)
          ∙ ap (λ (y : Bool). carry false y false) (and-false (D 0))
