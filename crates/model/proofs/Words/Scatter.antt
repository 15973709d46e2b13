-- SCATTER IS A SUBTRACTION (document 01: "subtraction for scatter"): where the live starts of unions are taken from the blocks, the difference has,
-- from a union's start to its last alternative's start, the bit of whether the union is live. For a borrow runs from the start up to the block bit.
use mathlib.Core.Path.{◌≡◌, refl, ap, ap₂, ◌∙◌}
use mathlib.Core.Logic.{◌≢◌}
use mathlib.Core.Bool.{Bool, true, false, ◌&&◌, ◌||◌, or-false, and-false, and-true}
use mathlib.Core.List.{List, [], ◌∷◌}
use Prim.Native.Nat.{ℕ, suc, ◌≤◌, ◌<◌}
use native.Mathlib.Nat.{le_refl}
use native.Mathlib.Omega.{arith}
use lib.Dec.{eqb, eqb_refl}
use Rattle.model.specs.Lists.{All, any, within}
use Rattle.model.proofs.Laws.Bool.{is_true, unequal}
use Rattle.model.proofs.Words.Forks.{Forks, none_after, Sound, Union}
use Rattle.model.proofs.Words.InOrder.{rows-from}
use Rattle.model.proofs.Words.Ripple.{borrow, difference_bits, into}
use Rattle.model.proofs.Words.Runs.{run, segment_bit, segment_out}

-- "block (last alternative's start, plus 1), source (union starts), target (alternative starts)"
abbrev pub scatter_block_of : List Union → ℕ → Bool
scatter_block_of us x = any (λ u. eqb x (suc u.final)) us

abbrev pub scatter_source_of : List Union → ℕ → Bool
scatter_source_of us x = any (λ u. eqb x u.start) us

abbrev pub scatter_target_of : List Union → ℕ → Bool
scatter_target_of us x = any (λ u. within x u.starts) us

no_block : (x a b : ℕ) (us : List Union) → x < a → Forks a b us → scatter_block_of us x ≡ false
no_block x a b us h A = none_after (λ u. eqb x (suc u.final)) (suc x) a b us h A (λ u S l. unequal x (suc u.final) (λ e. omega (arith, S.begins)))

no_source : (x a b : ℕ) (us : List Union) → x < a → Forks a b us → scatter_source_of us x ≡ false
no_source x a b us h A = none_after (λ u. eqb x u.start) (suc x) a b us h A (λ u S l. unequal x u.start (λ e. omega arith))

-- ---- the unions from state a on, into which nothing is borrowed: X has their blocks, Y their sources among the live states D
module _ (D : ℕ → Bool) where
  abbrev pub Scattered : (X Y : ℕ → Bool) → Union → Type 0
  Scattered X Y u = (j : ℕ) → u.start ≤ j → j ≤ u.final → difference_bits X Y j ≡ D u.start

  module _ (X Y : ℕ → Bool) where
    from : (a b : ℕ) (us : List Union) → Forks a b us → ((x : ℕ) → a ≤ x → X x ≡ scatter_block_of us x) → ((x : ℕ) → a ≤ x → Y x ≡ (D x && scatter_source_of us x))
        → into borrow X Y false a ≡ false → All (Scattered X Y) us
    from a b [] A h_x h_y c = tt
    from a b (u ∷ us) A h_x h_y c = (
      (λ j h k. segment_bit X Y (D lo) lo hi lt c_lo X-lo Y-lo X-in Y-in X-hi j h (omega arith)),
      from (suc hi) b us later X-rest Y-rest (segment_out X Y (D lo) lo hi lt c_lo X-lo Y-lo X-in Y-in X-hi),
    )
      where
        S : Sound u
        S = A.1

        lo : ℕ
        lo = u.start

        hi : ℕ
        hi = suc u.final

        lt : lo < hi
        lt = omega (arith, S.begins)

        X-at : (x : ℕ) → a ≤ x → x < u.close → X x ≡ eqb x hi
        X-at x h k = h_x x h ∙ ap (λ (n : Bool). eqb x hi || n) (no_block x u.close b us k A.2) ∙ or-false (eqb x hi)

        Y-at : (x : ℕ) → a ≤ x → x < u.close → Y x ≡ (D x && eqb x lo)
        Y-at x h k = h_y x h ∙ ap (λ (n : Bool). D x && (eqb x lo || n)) (no_source x u.close b us k A.2) ∙ ap (λ (n : Bool). D x && n) (or-false (eqb x lo))

        X-no : (x : ℕ) → a ≤ x → x < hi → X x ≡ false
        X-no x h k = X-at x h (omega (arith, S.block)) ∙ unequal x hi (λ e. omega arith)

        Y-no : (x : ℕ) → a ≤ x → x ≤ hi → x ≢ lo → Y x ≡ false
        Y-no x h k n = Y-at x h (omega (arith, S.block)) ∙ ap (λ (n : Bool). D x && n) (unequal x lo n) ∙ and-false (D x)

        c_lo : into borrow X Y false lo ≡ false
        c_lo =
            run borrow X Y false false a lo c
            (λ j h k. ap₂ (λ (x y : Bool). borrow x y false) (X-no j h (omega arith)) (Y-no j h (omega arith) (λ e. omega arith))) lo A.0 (le_refl lo)

        X-lo : X lo ≡ false
        X-lo = X-no lo A.0 lt

        Y-lo : Y lo ≡ D lo
        Y-lo = Y-at lo A.0 (omega (arith, S.block)) ∙ ap (λ (n : Bool). D lo && n) (is_true (eqb lo lo) (eqb_refl lo)) ∙ and-true (D lo)

        X-in : (j : ℕ) → lo < j → j < hi → X j ≡ false
        X-in j h k = X-no j (omega (arith, A.0)) k

        Y-in : (j : ℕ) → lo < j → j ≤ hi → Y j ≡ false
        Y-in j h k = Y-no j (omega (arith, A.0)) k (λ e. omega arith)

        X-hi : X hi ≡ true
        X-hi = X-at hi (omega (arith, A.0)) S.block ∙ is_true (eqb hi hi) (eqb_refl hi)

        X-rest : (x : ℕ) → suc hi ≤ x → X x ≡ scatter_block_of us x
        X-rest x h = h_x x (omega (arith, A.0)) ∙ ap (λ (n : Bool). n || scatter_block_of us x) (unequal x hi (λ e. omega arith))

        Y-rest : (x : ℕ) → suc hi ≤ x → Y x ≡ (D x && scatter_source_of us x)
        Y-rest x h = h_y x (omega (arith, A.0)) ∙ ap (λ (n : Bool). D x && (n || scatter_source_of us x)) (unequal x lo (λ e. omega arith))

        later : Forks (suc hi) b us
        later = rows-from (λ u. u.start) (λ u. u.close) Sound u.close (suc hi) b us S.block A.2

  -- THE THEOREM, for all unions of one depth
  pub scatter : (b : ℕ) (us : List Union) → Forks 0 b us → All (Scattered (scatter_block_of us) (λ x. D x && scatter_source_of us x)) us
  scatter b us A = from (scatter_block_of us) (λ x. D x && scatter_source_of us x) 0 b us A (λ x h. refl) (λ x h. refl) refl
