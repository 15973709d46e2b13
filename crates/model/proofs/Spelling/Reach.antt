-- WHAT A STATE REACHES WITHOUT A LETTER is what the two rounds from that state alone make live.
use mathlib.Core.Path.{subst}
use mathlib.Core.Logic.{◌↔◌}
use mathlib.Core.Bool.{Bool}
use Prim.Native.Nat.{ℕ, ◌<◌}
use native.Mathlib.Omega.{arith}
use lib.Dec.{T, eqb, eqb→eq, eqb_refl}
use Rattle.model.specs.Edges.{states}
use Rattle.model.specs.Live.{Free, itself, onward, Reached}
use Rattle.model.specs.Spelling.{Reaches}
use Rattle.model.specs.Tree.{Tree}
use Rattle.model.proofs.Definitions.Below.{reached_below}
use Rattle.model.proofs.Definitions.Live.{closed_is}
use Rattle.model.proofs.Words.Full.{Full}
use Rattle.model.proofs.Words.Rounds.{closed}

-- it is one of the tree's states
pub reaches_below : (t : Tree) {q r : ℕ} → Reaches t q r → q < states t → r < states t
reaches_below t {q} {r} h l = reached_below t (λ x e. omega arith) r h

module _ (t : Tree) (F : Full t) where
  abbrev pub reach_set : ℕ → ℕ → Bool
  reach_set q = closed t F (λ x. eqb x q)

  pub reach-set : (q x : ℕ) → T (reach_set q x) ↔ Reaches t q x
  reach-set q x = (λ h. there ((closed_is t F (λ y. eqb y q) x).0 h), λ h. (closed_is t F (λ y. eqb y q) x).1 (back h))
    where
      there : {x : ℕ} → Reached (Free t) (λ y. T (eqb y q)) x → Reaches t q x
      there (itself {q = y} h) = itself (eqb→eq y q h)
      there (onward h e) = onward (there h) e

      back : {x : ℕ} → Reaches t q x → Reached (Free t) (λ y. T (eqb y q)) x
      back (itself {q = y} e) = itself (subst (λ (z : ℕ). T (eqb y z)) e (eqb_refl y))
      back (onward h e) = onward (back h) e
