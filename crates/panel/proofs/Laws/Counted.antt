-- AN ANSWER THAT IS NO COUNT, packed as one: `map` keeps its refusal, so its number and place, and what counts of what is given becomes the count.
use mathlib.Core.Path.{◌≡◌, refl, ap}
use mathlib.Core.Bool.{Bool}
use Prim.Native.Nat.{ℕ, ◌+◌}
use Rattle.std.specs.Prelude.{Err, IsOkAnd, MatchResult, Ok, Result}
use Rattle.answers.specs.Answers.{count_in, judgement, number_in, place_in, proposed_number, proposed_place, proposed_stretch}
use Rattle.answers.specs.declared.Proposed.{Proposed}
use Rattle.answers.specs.declared.Refusal.{Refusal}
use Rattle.panel.specs.Says.{one_if_yes}

abbrev counted : {A : Type 0} → (A → ℕ) → Result A Refusal → Result ℕ Refusal
counted f (Ok x) = Ok (f x)
counted f (Err x) = Err x

counted_by : {A : Type 0} (f : A → ℕ) (P : A → ℕ → Type 0) → ((x : A) (n : ℕ) → P x n → n ≡ f x)
    → (a : Result A Refusal) (r : Result ℕ Refusal) → MatchResult a (λ x. IsOkAnd r (P x)) (λ x. r ≡ Err x) → r ≡ counted f a
counted_by f P h (Ok x) (Ok n) m = ap Ok (h x n m)
counted_by f P h (Ok x) (Err y) m = absurd m
counted_by f P h (Err x) r m = m

-- the two halves that are packed
pub record Halves (r : Result ℕ Refusal) (number rest : ℕ) : Type 0 where
  pub high : number_in r ≡ number
  pub low : place_in r + count_in r ≡ rest

-- of a judgement, by what the closure of `map` says
pub judged_halves : (P : Bool → ℕ → Type 0) → ((b : Bool) (n : ℕ) → P b n → n ≡ one_if_yes b)
    → (j : Result Bool Refusal) (r : Result ℕ Refusal) → MatchResult j (λ b. IsOkAnd r (P b)) (λ x. r ≡ Err x)
    → Halves r (judgement j).number ((judgement j).place + one_if_yes (judgement j).given)
judged_halves P h j r m = rw (counted_by one_if_yes P h j r m) (of_counted j)
  where
    of_counted : (j : Result Bool Refusal) → Halves (counted one_if_yes j) (judgement j).number ((judgement j).place + one_if_yes (judgement j).given)
    of_counted (Ok b) = record { high = refl; low = refl }
    of_counted (Err x) = record { high = refl; low = refl }

-- and of a proposal
pub proposed_halves : (P : Proposed → ℕ → Type 0) → ((p : Proposed) (n : ℕ) → P p n → n ≡ p.count)
    → (a : Result Proposed Refusal) (r : Result ℕ Refusal) → MatchResult a (λ p. IsOkAnd r (P p)) (λ x. r ≡ Err x)
    → Halves r (proposed_number a) (proposed_place a + (proposed_stretch a).count)
proposed_halves P h a r m = rw (counted_by (λ (p : Proposed). p.count) P h a r m) (of_counted a)
  where
    of_counted : (a : Result Proposed Refusal) → Halves (counted (λ (p : Proposed). p.count) a) (proposed_number a) (proposed_place a + (proposed_stretch a).count)
    of_counted (Ok p) = record { high = refl; low = refl }
    of_counted (Err x) = record { high = refl; low = refl }
