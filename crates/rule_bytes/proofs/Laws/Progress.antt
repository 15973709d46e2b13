-- HOW FAR A READER GOES: where fewer bytes are left than before, the place after what was read lies further on.
use mathlib.Core.Path.{subst}
use mathlib.Core.List.{List}
use Prim.Native.Nat.{ℕ, ◌<◌}
use native.Mathlib.Omega.{arith}
use lib.ListN.{drop, length, length-drop}
use Rattle.model.specs.Models.Reader.{Read}
use Rattle.model.proofs.Reading.Answers.{Holds}
use Rattle.rule_bytes.specs.Places.{Took}

-- fewer bytes are left than l has
abbrev pub Falls : {A : Type 0} → List ℕ → Read A → Type 0
Falls l m = Holds (λ a r. length r < length l) m

module _ {A : Type 0} (rule : List ℕ) {m : Read A} {a : A} {p : ℕ} (t : Took rule m a p) where
  pub told : (P : A → List ℕ → Type 0) → Holds P m → P a (drop p rule)
  told P h = subst (Holds P) t.reads h

  pub further : (at : ℕ) → Falls (drop at rule) m → at < p
  further at h = omega (arith, length-drop at rule, length-drop p rule, t.inside, told (λ x r. length r < length (drop at rule)) h)
