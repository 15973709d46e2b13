-- A READER'S ANSWER: what it says of the model tells where the model stops, and the refusal of one reader is given on by the next.
use mathlib.Core.Path.{◌≡◌, ap, ◌∙◌}
use mathlib.Core.Bool.{Bool}
use mathlib.Core.List.{List}
use Prim.Native.Nat.{ℕ, ◌≤◌}
use lib.ListN.{drop, length}
use Rattle.std.proofs.Common.{Err, Ok, Result}
use Rattle.std.specs.Result.{IsErrAnd}
use Rattle.std.proofs.lemmas.Result.{err_from_is_err_and}
use Rattle.model.specs.Models.Places.{Placed as ModelPlaced}
use Rattle.model.specs.Models.Reader.{Read}
use Rattle.model.proofs.Reading.Positions.{stops_at, takes_at}
use Rattle.rule_bytes.specs.Places.{Placed, Says}
use Rattle.rule_bytes.specs.declared.Unreadable.{Unreadable}

-- what `?` gives on
pub given_on : {T E : Type 0} {r : Result T E} {e : E} → IsErrAnd r (λ y. y ≡ e) → r ≡ Err e
given_on {r = r} h = let p = err_from_is_err_and r h in p.1 ∙ ap Err p.2

module _ {A B : Type 0} (of : B → A) (rule : List ℕ) (at : ℕ) (h : at ≤ length rule) {X : List ℕ → A → Type 0} {F : List ℕ → Bool} {m : Read A} where
  pub placed : (r : Result (B × ℕ) Unreadable) → Says of rule m r → ModelPlaced X F (drop at rule) m → Placed of X F rule at r
  placed (Ok r) t P = takes_at rule at r.1 h t.inside P t.reads
  placed (Err e) s P = stops_at rule at e.0 h s.inside P s.reads
