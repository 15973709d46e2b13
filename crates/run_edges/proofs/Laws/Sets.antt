-- WORDS THAT HOLD A SET OF THE TREE'S STATES: what a state reaches, and what a byte enters from there.
use mathlib.Core.Path.{◌≡◌, subst}
use mathlib.Core.Logic.{◌⊎◌, inl, inr, ◌↔◌}
use mathlib.Core.List.{List}
use Prim.Native.Nat.{ℕ, ◌≤◌, ◌<◌}
use native.Mathlib.Omega.{arith}
use lib.Dec.{T}
use lib.ListN.{length}
use Rattle.model.specs.Answers.{ImageOf}
use Rattle.model.specs.Bits.{bit}
use Rattle.model.specs.Edges.{states}
use Rattle.model.specs.Live.{Takes}
use Rattle.model.specs.Models.Words.{Fit, value}
use Rattle.model.specs.Tree.{Tree}
use Rattle.model.proofs.Laws.Bool.{le_or_lt}
use Rattle.model.proofs.Words.RowBits.{row_past}
use Rattle.model.specs.Spelling.{Reaches}
use Rattle.model.proofs.Definitions.Below.{takes_below}
use Rattle.model.proofs.Spelling.Reach.{reaches_below}
use Rattle.run_edges.specs.Reach.{EnterSays, ReachSays}
use Rattle.run.specs.Says.{StatesAre}

-- a set whose states are all the tree's, at every place
pub every : {t : Tree} {words : List ℕ} {S : ℕ → Type 0} → StatesAre t words S → ((q : ℕ) → S q → q < states t) → (q : ℕ) → T (bit (value words) q) ↔ S q
every {t} {words} {S} A l q = go (le_or_lt (states t) q)
  where
    go : (states t ≤ q) ⊎ (q < states t) → T (bit (value words) q) ↔ S q
    go (inl h) = (λ b. absurd (subst T (A.beyond q h) b), λ s. absurd (let k = l q s in omega arith))
    go (inr h) = A.within q h

module _ {image : List ℕ} {t : Tree} (I : ImageOf image t) {q : ℕ} (h : q < states t) {row : List ℕ} (R : ReachSays image q row) where
  pub row_is : (p : ℕ) → T (bit (value row) p) ↔ Reaches t q p
  row_is = every (R t I h) (λ p k. reaches_below t k h)

  -- what a byte enters from what a state reaches
  pub entered_from : (b : ℕ) (on : List ℕ) → EnterSays image b row on → (r : ℕ) → T (bit (value on) r) ↔ ((p : ℕ) × Reaches t q p × Takes t b p r)
  entered_from b on E r =
      let e = every (E t I (R t I h).beyond) (λ x k. takes_below t b k.0 x k.2) r in (
        λ k. let s = e.0 k in (s.0, (row_is s.0).0 s.1, s.2),
        λ k. e.1 (k.0, (row_is k.0).1 k.1, k.2),
      )

-- ---- the bits of eight words
pub bit_below : (words : List ℕ) (x : ℕ) → Fit words → length words ≡ 8 → T (bit (value words) x) → x < 512
bit_below words x f e h = go (le_or_lt 512 x)
  where
    go : (512 ≤ x) ⊎ (x < 512) → x < 512
    go (inl l) = absurd (subst T (row_past words x f (omega arith)) h)
    go (inr l) = l
