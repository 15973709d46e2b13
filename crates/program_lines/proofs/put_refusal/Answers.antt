-- The word `refused `, and the refusal's number after it; or `refused 2 at `, and the place.
use mathlib.Core.Path.{◌≡◌, sym, ◌∙◌}
use mathlib.Core.List.{List, ◌++◌}
use Prim.Native.Nat.{ℕ, ◌≤◌, ◌<◌, ◌^◌}
use native.Mathlib.Omega.{arith}
use Rattle.model.specs.Bytes.{bytes}
use Rattle.model.proofs.Laws.Bool.{unequal}
use Rattle.answers.specs.Answers.{number_of, place_of}
use Rattle.answers.specs.declared.Refusal.{Refusal}
use Rattle.answers.proofs.Apart.{number_known}
use Rattle.program_lines.specs.Lines.{decimal, line, refused_text}
use Rattle.program_lines.specs.Work.{PutAt}
use Rattle.program_lines.proofs.Laws.Numbers.{number_short}
use Rattle.program_lines.proofs.Laws.Puts.{put_then}
use Rattle.program_lines.proofs.put_refusal.Goals as goal

-- either line, from what was put: a place has at most twenty digits, and a number two
abbrev Line : Refusal → (before : List ℕ) (r : ℕ) (after : List ℕ) → Type 0
Line x before r after = PutAt (refused_text (number_of x) (place_of x)) before 0 r after × (r ≤ 34)

module _ (x : Refusal) {before after : List ℕ} {r : ℕ} where
  with_place : {p : ℕ} → p < 2 ^ 64 → number_of x ≡ 2 → p ≡ place_of x → PutAt (bytes "refused 2 at " ++ line (decimal p)) before 0 r after → Line x before r after
  with_place {p} l e q P = (rw (e, ← q) P, omega (arith, P.place, number_short 19 p (omega (arith, l))))

  with_number : {n : ℕ} → n ≡ number_of x → (n ≡ 2 → ⊥) → PutAt (bytes "refused " ++ line (decimal n)) before 0 r after → Line x before r after
  with_number {n} e d P = (rw (← e, unequal n 2 d) P, omega (arith, P.place, number_short 1 n (omega (arith, e, (number_known x).1))))

pub returns-then-n-eq2 : goal.returns-then-n-eq2
returns-then-n-eq2 c =
    let l = with_place c.args.refusal c.place.type_inv (sym c.number-n.ensures ∙ c.if-n-eq2.true) c.place.ensures
    (put_then c.put-place_at.ensures c.put_number.ensures) in
    record { line = l.0; short = l.1 }

pub returns : goal.returns
returns c =
    let l = with_number c.args.refusal c.number-n.ensures c.if-n-eq2.false (put_then c.put-number_at.ensures c.put_number-2.ensures) in
    record { line = l.0; short = l.1 }
