-- ONE TEXT WRITTEN AFTER ANOTHER: the second is stored from the place after the first, so both are stored as one text.
use mathlib.Core.Path.{◌≡◌, refl, sym, ap₂, ◌∙◌, subst}
use mathlib.Core.List.{List, [], ◌∷◌, ◌++◌}
use Prim.Native.Nat.{ℕ, ◌+◌}
use native.Mathlib.Omega.{arith}
use lib.ListN.{length, length-append, set}
use lib.Seq.{sets}
use Rattle.model.proofs.Laws.Stores.{sets_append}

-- what a function that writes a text leaves, and the place after it
abbrev pub Writes : (before : List ℕ) (at : ℕ) (text after : List ℕ) (place : ℕ) → Type 0
Writes before at text after place = (place ≡ at + length text) × (after ≡ sets before at text)

module _ (l : List ℕ) (at : ℕ) where
  pub writes_none : Writes l at [] l at
  writes_none = (omega arith, refl)

  pub writes_one : (b : ℕ) {r : List ℕ} → r ≡ set l at b → Writes l at (b ∷ []) r (at + 1)
  writes_one b e = (refl, e)

  pub writes_then : (us vs : List ℕ) {m r : List ℕ} {p q : ℕ} → Writes l at us m p → Writes m p vs r q → Writes l at (us ++ vs) r q
  writes_then us vs f g =
      (omega (arith, f.0, g.0, length-append us vs), g.1 ∙ ap₂ (λ (k : List ℕ) (j : ℕ). sets k j vs) f.1 f.0 ∙ sym (sets_append l at us vs))

  pub writes_as : {us vs r : List ℕ} {q : ℕ} → us ≡ vs → Writes l at us r q → Writes l at vs r q
  writes_as {r = r} {q = q} e f = subst (λ (w : List ℕ). Writes l at w r q) e f

-- one byte more, up to the place q
pub writes_next : (l : List ℕ) (at : ℕ) (us : List ℕ) (b q : ℕ) {m r : List ℕ} {p : ℕ} → Writes l at us m p → r ≡ set m p b → q ≡ p + 1
    → Writes l at (us ++ (b ∷ [])) r q
writes_next l at us b q {m} {r} {p} f e h = subst (Writes l at (us ++ (b ∷ [])) r) (sym h) (writes_then l at us (b ∷ []) f (writes_one m p b e))
