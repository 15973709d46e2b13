-- ONE READER AFTER ANOTHER: what the first answers decides what both do.
use mathlib.Core.Path.{sym, ap, subst}
use mathlib.Core.List.{List}
use Prim.Native.Nat.{ℕ}
use lib.ListN.{drop}
use Rattle.model.specs.Models.Reader.{bind, Read}
use Rattle.rule_bytes.specs.Places.{Stopped, Took}

module _ {A B : Type 0} {rule : List ℕ} {m : Read A} where
  pub bind_stops : {p : ℕ} (f : A → List ℕ → Read B) → Stopped rule m p → Stopped rule (bind m f) p
  bind_stops f h = record { reads = ap (λ n. bind n f) h.reads; inside = h.inside }

  module _ {a : A} {p : ℕ} (h : Took rule m a p) where
    -- the second goes on
    pub bind_goes : (f : A → List ℕ → Read B) (S : Read B → Type 0) → S (f a (drop p rule)) → S (bind m f)
    bind_goes f S s = subst S (sym (ap (λ n. bind n f) h.reads)) s
