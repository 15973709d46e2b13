-- A MODEL'S READER AT A PLACE OF THE RULE: it looks at the byte x there, which past the end counts as 0. What it makes of a list that begins with
-- x, and of the empty list, is what it answers there.
use mathlib.Core.Path.{◌≡◌, sym, ap, ◌∙◌, subst}
use mathlib.Core.Logic.{◌⊎◌, inl, inr}
use mathlib.Core.Bool.{Bool, true, false}
use mathlib.Core.List.{List, [], ◌∷◌}
use Prim.Native.Nat.{ℕ, suc, ◌+◌, ◌≤◌, ◌<◌}
use native.Mathlib.Numerals.{add-one}
use native.Mathlib.Omega.{arith}
use lib.ListN.{drop, get_or, length, get_or-eq_default}
use lib.Seq.{drop-cons, drop-length}
use Rattle.model.specs.Models.Reader.{bad, got, Read}
use Rattle.model.proofs.Laws.Bool.{le_or_lt}
use Rattle.rule_bytes.specs.Places.{Stopped, Took}

at_end : (rule : List ℕ) (at : ℕ) → at ≡ length rule → drop at rule ≡ []
at_end rule at e = ap (λ (p : ℕ). drop p rule) e ∙ drop-length rule

-- the same value in other words
pub took_as : {A : Type 0} {rule : List ℕ} {m : Read A} {a b : A} {p : ℕ} → b ≡ a → Took rule m a p → Took rule m b p
took_as {rule = rule} {m = m} {p = p} e h = subst (λ c. Took rule m c p) (sym e) h

true_false : true ≡ false → ⊥
true_false e = let z : ◌≡◌ {A = ℕ} 0 1 = cc in omega arith

module _ (rule : List ℕ) (at : ℕ) {x : ℕ} (e : x ≡ get_or rule at 0) where
  -- a byte that is not 0 stands in the rule; so does one that passes a test which 0 fails
  pub inside : (x ≡ 0 → ⊥) → at < length rule
  inside n = go (le_or_lt (length rule) at)
    where
      go : (length rule ≤ at) ⊎ (at < length rule) → at < length rule
      go (inl h) = absurd (n (e ∙ get_or-eq_default rule 0 h))
      go (inr h) = h

  pub passes : (t : ℕ → Bool) → t 0 ≡ false → t x ≡ true → at < length rule
  passes t f h = inside (λ z. true_false (sym h ∙ ap t z ∙ f))

  pub here : at < length rule → drop at rule ≡ x ∷ drop (at + 1) rule
  here h = drop-cons rule at 0 h ∙ ap (λ (y : ℕ). y ∷ drop (suc at) rule) (sym e) ∙ ap (λ (p : ℕ). x ∷ drop p rule) (sym (add-one at))

  module _ {A : Type 0} (f : List ℕ → Read A) where
    -- the byte is taken; the reading goes on with g after it; the byte is refused; the byte is left to others
    pub takes : {a : A} → at < length rule → ((xs : List ℕ) → f (x ∷ xs) ≡ got a xs) → Took rule (f (drop at rule)) a (at + 1)
    takes h k = record { reads = ap f (here h) ∙ k (drop (at + 1) rule); inside = omega arith }

    pub goes : (g : List ℕ → Read A) (S : Read A → Type 0) → at < length rule → ((xs : List ℕ) → f (x ∷ xs) ≡ g xs)
        → S (g (drop (at + 1) rule)) → S (f (drop at rule))
    goes g S h k s = subst S (sym (ap f (here h) ∙ k (drop (at + 1) rule))) s

    module _ (h : at ≤ length rule) where
      pub stays : (g : List ℕ → Read A) → f [] ≡ g [] → ((xs : List ℕ) → f (x ∷ xs) ≡ g (x ∷ xs)) → f (drop at rule) ≡ g (drop at rule)
      stays g n k = go (le_or_lt (length rule) at)
        where
          go : (length rule ≤ at) ⊎ (at < length rule) → f (drop at rule) ≡ g (drop at rule)
          go (inl l) = let z = at_end rule at (omega arith) in ap f z ∙ n ∙ sym (ap g z)
          go (inr l) = let z = here l in ap f z ∙ k (drop (at + 1) rule) ∙ sym (ap g z)

      pub stops : f [] ≡ bad [] → ((xs : List ℕ) → f (x ∷ xs) ≡ bad (x ∷ xs)) → Stopped rule (f (drop at rule)) at
      stops n k = record { reads = stays bad n k; inside = h }

      pub leaves : (a : A) → f [] ≡ got a [] → ((xs : List ℕ) → f (x ∷ xs) ≡ got a (x ∷ xs)) → Took rule (f (drop at rule)) a at
      leaves a n k = record { reads = stays (got a) n k; inside = h }

      -- the byte decides that g reads here
      pub turns : (g : List ℕ → Read A) (S : Read A → Type 0) → f [] ≡ g [] → ((xs : List ℕ) → f (x ∷ xs) ≡ g (x ∷ xs))
          → S (g (drop at rule)) → S (f (drop at rule))
      turns g S n k s = subst S (sym (stays g n k)) s
