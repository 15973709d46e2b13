-- ONE TURN OF THE CHECKER'S LOOP: what is left to follow, since a proposal that is not empty follows exactly if its first state is entered so and the rest follows.
use mathlib.Core.Path.{◌≡◌, sym, ap, ◌∙◌, subst}
use mathlib.Core.Logic.{◌↔◌, ◌⊎◌, inl, inr}
use mathlib.Core.Bool.{Bool, false}
use mathlib.Core.List.{List, [], ◌∷◌}
use Prim.Native.Nat.{ℕ, ◌+◌, ◌≤◌, ◌<◌}
use native.Mathlib.Omega.{arith}
use lib.Dec.{T}
use lib.ListN.{drop, length, length-drop, take}
use Rattle.std.proofs.lemmas.List.{nil_from_length}
use Rattle.model.specs.Answers.{ImageOf}
use Rattle.model.specs.Bits.{bit}
use Rattle.model.specs.Edges.{accepting, states}
use Rattle.model.specs.Models.Words.{value}
use Rattle.model.specs.Tree.{Tree}
use Rattle.model.specs.Spelling.{Follow}
use Rattle.model.proofs.Definitions.Below.{takes_below}
use Rattle.run_edges.specs.Reach.{EnterSays, ReachSays}
use Rattle.run_edges.proofs.Laws.Sets.{entered_from, row_is}

-- of all the bytes and states of a proposal those are left, to be followed from q on: the bytes may go on past the proposal's
pub record Going (image bytes list : List ℕ) (q : ℕ) (bs rs : List ℕ) : Type 0 where
  pub enough : length rs ≤ length bs
  pub left : (t : Tree) → ImageOf image t → (q < states t) × (Follow t 0 bytes list ↔ Follow t q (take (length rs) bs) rs)

-- at the first all of it
pub going_all : {image list bs rs : List ℕ} (text : List ℕ) (start : ℕ) → start + length list ≤ length text → bs ≡ drop start text → rs ≡ list
    → Going image (take (length list) (drop start text)) list 0 bs rs
going_all text start fits all each =
    rw (all, each) (record { enough = omega (arith, length-drop start text); left = λ t I. (omega arith, (λ h. h, λ h. h)) })

none_left : (bs rs : List ℕ) → length rs ≤ length bs → (bs ≡ []) ⊎ (rs ≡ []) → rs ≡ []
none_left bs rs enough (inl e) = nil_from_length rs (omega (arith, ap length e))
none_left bs rs enough (inr e) = e

module _ {image bytes list : List ℕ} where
  -- a byte and a state come next
  module _ {q b r : ℕ} {bs rs bs' rs' : List ℕ} (left : Going image bytes list q bs' rs') (next : (bs' ≡ b ∷ bs) × (rs' ≡ r ∷ rs))
      {row on : List ℕ} (R : ReachSays image q row) (E : EnterSays image b row on) where
    G : Going image bytes list q (b ∷ bs) (r ∷ rs)
    G = rw (next.0, next.1) at left

    pub going_more : T (bit (value on) r) → Going image bytes list r bs rs
    going_more h = record { enough = omega (arith, G.enough); left = more }
      where
        more : (t : Tree) → ImageOf image t → (r < states t) × (Follow t 0 bytes list ↔ Follow t r (take (length rs) bs) rs)
        more t I =
            let g = G.left t I in
            let k = (entered_from I g.0 R b on E r).0 h in
            (takes_below t b k.0 r k.2, (λ f. (g.1.0 f).1, λ f. g.1.1 (k, f)))

    pub going_stops : bit (value on) r ≡ false → (t : Tree) → ImageOf image t → Follow t 0 bytes list → ⊥
    going_stops h t I f = let g = G.left t I in subst T h ((entered_from I g.0 R b on E r).1 (g.1.0 f).0)

  -- nothing is left: the last state reaches the accepting one, or does not
  pub going_ends : {q last : ℕ} {bs rs row : List ℕ} → Going image bytes list q bs rs → (bs ≡ []) ⊎ (rs ≡ []) → ReachSays image q row
      → (v : Bool) → v ≡ bit (value row) last → (t : Tree) → ImageOf image t → last ≡ accepting t → T v ↔ Follow t 0 bytes list
  going_ends {q} {bs = bs} {rs} {row} G none R v e t I a =
      let g = G.left t I in
      let look : v ≡ bit (value row) (accepting t) = e ∙ ap (bit (value row)) a in
      let there = row_is I g.0 R (accepting t) in
      let last : Follow t 0 bytes list ↔ Follow t q (take 0 bs) [] = rw (none_left bs rs G.enough none) at g.1 in
      (λ h. last.1 (there.0 (subst T look h)), λ f. subst T (sym look) (there.1 (last.0 f)))
