-- SPELLINGS, COMPUTED: whether a proposal gets yes, and the latest start, by going along the tree's edges. Nothing here is believed.
use Rattle.std.specs.Prelude.{Bool, false, ◌&&◌, ◌||◌, cond, List, [], ◌∷◌, ℕ, zero, suc, ◌-◌, eqb, leb, ltb, length}
use Rattle.std.proofs.Math.Option.{Option, none, some}
use Rattle.model.specs.Lists.{any}
use Rattle.model.specs.Edges.{accepting, by_letter, by_loop, EdgeKind, edges}
use Rattle.model.specs.Live.{letterless}
use Rattle.model.specs.Spelling.{between}
use Rattle.model.specs.Tree.{Tree}

-- some edge of a kind has ends that pass the test
abbrev pub along : Tree → (EdgeKind → Bool) → (ℕ → ℕ → Bool) → Bool
along t kind passes = any (λ e. kind e.kind && passes e.from e.to) (edges t)

-- q reaches x without a letter by edges that rise; x of them are enough
abbrev pub rises_in : ℕ → Tree → (q x : ℕ) → Bool
rises_in zero t q x = eqb x q
rises_in (suc n) t q x = eqb x q || along t letterless (λ p r. (eqb r x && ltb p r) && rises_in n t q p)

abbrev pub rises : Tree → (q x : ℕ) → Bool
rises t q x = rises_in x t q x

-- q reaches x without a letter; of the edges that lead back one is enough
abbrev pub reaches : Tree → (q x : ℕ) → Bool
reaches t q x = rises t q x || along t letterless (λ p r. leb r p && (rises t q p && rises t r x))

-- an edge or loop taking the byte leaves a state that q reaches, and enters one that passes the test
abbrev pub steps : Tree → (b q : ℕ) → (ℕ → Bool) → Bool
steps t b q passes = along t (λ e. by_letter b e || by_loop b e) (λ p r. reaches t q p && passes r)

-- the states follow q; some states do
abbrev pub follows : Tree → ℕ → (bytes states : List ℕ) → Bool
follows t q [] [] = reaches t q (accepting t)
follows t q [] (r ∷ rs) = false
follows t q (b ∷ bs) [] = false
follows t q (b ∷ bs) (r ∷ rs) = steps t b q (λ x. eqb x r) && follows t r bs rs

abbrev pub leads : Tree → List ℕ → ℕ → Bool
leads t [] q = reaches t q (accepting t)
leads t (b ∷ bs) q = steps t b q (leads t bs)

-- A PROPOSAL GETS YES
abbrev pub is_spelled : Tree → List ℕ → (start end : ℕ) → List ℕ → Bool
is_spelled t text start end states =
    leb end (length text) && (leb start end && (eqb (length states) (end - start) && follows t 0 (between text start end) states))

-- THE LATEST START for an end, if there is one; below a place, and at all
abbrev pub latest_below : ℕ → Tree → List ℕ → (end : ℕ) → Option ℕ
latest_below zero t text end = none
latest_below (suc k) t text end = cond (leads t (between text k end) 0) (some k) (latest_below k t text end)

abbrev pub latest : Tree → List ℕ → (end : ℕ) → Option ℕ
latest t text end = cond (leb end (length text)) (latest_below (suc end) t text end) none
