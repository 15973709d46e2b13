-- WHAT THE PROGRAM RELIES ON: how long a number can be, and that what a call of the watcher has found lies in the journal.
use Rattle.std.specs.Prelude.{Ok, true}
use mathlib.Core.Path.{◌≡◌, ap}
use mathlib.Core.Bool.{cond}
use mathlib.Core.List.{List, [], ◌∷◌}
use Prim.Native.Nat.{ℕ, ◌+◌, ◌-◌, ◌^◌, ◌≤◌, ◌<◌}
use native.Mathlib.Omega.{arith}
use lib.ListN.{drop, length, length-append, length-drop, length-replicate, length-take, replicate}
use Rattle.model.specs.Spelling.{between, CheckSays, Judgement, no_end, no_room, Proposal, proposed, ProposeSays, Spelled, right, wrong}
use Rattle.answers.specs.Answers.{judgement, proposal}
use Rattle.answers.specs.declared.Proposed.{Proposed}
use Rattle.program_lines.specs.Lines.{decimal}
use Rattle.program_lines.proofs.Laws.Numbers.{number_short}

-- ---- HOW LONG
pub ten_digits : (n : ℕ) → n < 2 ^ 32 → length (decimal n) ≤ 10
ten_digits n l = omega (arith, number_short 9 n (omega (arith, l)), length-append (decimal n) (10 ∷ []))

pub room_enough : (n : ℕ) → n ≤ length {A = ℕ} (replicate n 0)
room_enough n = omega (arith, length-replicate {A = ℕ} n 0)

-- ---- WHAT WAS FOUND: two places of a journal that is not too long, and as many states as there are bytes between them
pub record Lies (journal : List ℕ) (start end count : ℕ) : Type 0 where
  pub few : length journal ≤ 65535
  pub inside : end ≤ length journal
  pub ordered : start ≤ end
  pub each : count ≡ end - start

lies : {t : _} {journal states : List ℕ} {start end : ℕ} → length journal ≤ 65535 → Spelled t journal start end states → Lies journal start end (length states)
lies f S = record { few = f; inside = S.inside; ordered = S.ordered; each = S.each }

pub right_lies : {words journal states : List ℕ} {start end : ℕ} → CheckSays words journal start end states (judgement (Ok true)) → Lies journal start end (length states)
right_lies (CheckSays.not_an_image n e) = absurd (omega (arith, ap (λ (a : Judgement). a.number) e))
right_lies (CheckSays.text_too_long t i l e) = absurd (omega (arith, ap (λ (a : Judgement). a.number) e))
right_lies (right t i l S e) = lies l S
right_lies (wrong t i l n e) = absurd (omega (arith, ap {B = ℕ} (λ (a : Judgement). cond a.given 0 1) e))

pub proposed_lies : {words journal before : List ℕ} (after : List ℕ) {end : ℕ} (p : Proposed) → ProposeSays words journal end before (proposal (Ok p) after)
    → Lies journal p.start end p.count
proposed_lies after p (ProposeSays.not_an_image n e) = absurd (omega (arith, ap (λ (a : Proposal). a.number) e))
proposed_lies after p (ProposeSays.text_too_long t i l e) = absurd (omega (arith, ap (λ (a : Proposal). a.number) e))
proposed_lies after p (no_end t i l n e) = absurd (omega (arith, ap (λ (a : Proposal). a.number) e))
proposed_lies after p (no_room t s i l L n e) = absurd (omega (arith, ap (λ (a : Proposal). a.number) e))
proposed_lies after p (proposed t s states i l L n S e) =
    let at = ap (λ (a : Proposal). a.given.start) e in
    record {
      few = l;
      inside = S.inside;
      ordered = omega (arith, S.ordered, at);
      each = omega (arith, ap (λ (a : Proposal). a.given.count) e, at);
    }

pub states_few : {journal : List ℕ} {start end count : ℕ} → Lies journal start end count → count ≤ 65535
states_few L = omega (arith, L.each, L.inside, L.few)

-- so the lines of such a record can be put
pub record_fits : {journal : List ℕ} {start end count n : ℕ} → Lies journal start end count → n ≡ count
    → (end ≤ 65535) × (start + length (between journal start end) ≤ 65535) × (n ≡ length (between journal start end))
record_fits {journal} {start} {end} L e =
    let d = length-drop start journal in
    let t = length-take (end - start) (drop start journal) in
    (omega (arith, L.inside, L.few), omega (arith, d, t, L.inside, L.ordered, L.few), omega (arith, d, t, e, L.each, L.inside, L.ordered))
