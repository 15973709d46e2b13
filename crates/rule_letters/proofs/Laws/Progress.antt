-- EVERY MEMBER OF A CLASS TAKES A BYTE, so the bytes that are left fall.
use mathlib.Core.Path.{ap}
use mathlib.Core.List.{List, [], ◌∷◌}
use Prim.Native.Nat.{ℕ, ◌≤◌, ◌<◌}
use native.Mathlib.Omega.{arith}
use lib.Dec.{eqb, leb}
use lib.ListN.{length, length-append}
use Rattle.model.specs.Bytes.{byte, IsEscape}
use Rattle.model.specs.Grammar.{bare, span}
use Rattle.model.specs.Models.Reader.{bad, bind, case, got, Read, read_escape, read_member, read_single}
use Rattle.model.proofs.Laws.Bool.{cond_cases}
use Rattle.model.proofs.Reading.Answers.{Holds, past_cases, sound_holds}
use Rattle.model.proofs.Reading.Escapes.{escape_tail, sound_escape}
use Rattle.rule_bytes.proofs.Laws.Progress.{Falls}
use Rattle.rule_letters.specs.Classes.{after_lower, after_minus}

holds_bind : {A B : Type 0} (P : A → List ℕ → Type 0) (Q : B → List ℕ → Type 0) (m : Read A) (f : A → List ℕ → Read B) → Holds P m
    → ((a : A) (r : List ℕ) → P a r → Holds Q (f a r)) → Holds Q (bind m f)
holds_bind P Q (got a r) f h g = g a r h
holds_bind P Q (bad r) f h g = tt

escape_long : {u : List ℕ} {b : ℕ} → IsEscape u b → 1 ≤ length u
escape_long d = let t = escape_tail d in omega (arith, ap length t.1)

escape_falls : (lo x : ℕ) (l : List ℕ) → Falls (x ∷ l) (read_escape lo l)
escape_falls lo x l =
    sound_holds (λ b r. length r < length (x ∷ l)) (sound_escape lo l) (λ u b r e d. omega (arith, ap length e, length-append u r, escape_long d.0))

single_falls : (lo : ℕ) (l : List ℕ) → Falls l (read_single lo l)
single_falls lo [] = tt
single_falls lo (x ∷ xs) =
    cond_cases (Falls (x ∷ xs)) (bare x) (λ t. cond_cases (Falls (x ∷ xs)) (leb lo x) (λ k. omega arith) (λ k. tt))
    (λ t. cond_cases (Falls (x ∷ xs)) (eqb x (byte "\\")) (λ k. escape_falls lo x xs) (λ k. tt))

lower_falls : (lo : ℕ) (l r : List ℕ) → length r < length l → Falls l (after_lower lo r)
lower_falls lo l r h =
    past_cases (λ m. Falls l (case m (λ x s. after_minus lo s) (got (span lo lo) r))) (byte "-") r
    (λ s e. holds_bind (λ b t. length t < length s) (λ c t. length t < length l) (read_single lo s) (λ hi t. got (span lo hi) t)
    (single_falls lo s) (λ b t k. omega (arith, ap length e)))
    h

pub member_falls : (l : List ℕ) → Falls l (read_member l)
member_falls l =
    holds_bind (λ b r. length r < length l) (λ c r. length r < length l) (read_single 0 l) after_lower
    (single_falls 0 l) (λ b r h. lower_falls b l r h)
