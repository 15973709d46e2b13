-- ALL ENDS ARE SHOWN: a stretch has at most as many as bytes, and there is room for so many; before any byte there is one at most.
use Rattle.std.proofs.Common.{◌≡◌, ℕ, ◌≤◌, List, [], ◌∷◌, length, replicate, refl, arith, length-take}
use lib.ListN.{length-replicate}
use Rattle.model.specs.Answers.{done, gives}
use Rattle.model.specs.Watch.{BeginSays, begun, found_by, stepped, StepSays, stretch_too_long, text_too_long, watch, Watched}
use Rattle.watcher.proofs.Laws.Ends.{ends_few, stretch_ends_few}
use Rattle.program_lines.proofs.Laws.Room.{room_kept}

-- as many are shown as are counted
shown : (found : List ℕ) (k : ℕ) → length found ≤ k → length (found_by (gives (length found) (watch [] 0 (done found (replicate k 0)).lent))) ≡ length found
shown found k l =
    let lent = (done found (replicate k 0)).lent in
    omega (arith, length-take (length found) lent, room_kept found (replicate k 0), length-replicate {A = ℕ} k 0)

abbrev Few : ℕ → Watched → Type 0
Few k a = (a.given ≤ k) × (length (found_by a) ≡ a.given)

pub begin_few : {words mask : List ℕ} {place : ℕ} {a : Watched} → BeginSays words mask place (0 ∷ []) a → Few 1 a
begin_few (BeginSays.not_an_image f e) = rw e (omega arith, refl)
begin_few (BeginSays.not_a_mask t i f e) = rw e (omega arith, refl)
begin_few (begun t first found I k A E e) = let l = ends_few t [] found E in rw e (l, shown found 1 l)

pub step_few : {words mask stretch : List ℕ} {place : ℕ} {a : Watched} → StepSays words mask place stretch (replicate 4096 0) a → length stretch ≤ 4096 → Few (length stretch) a
step_few (StepSays.not_an_image f e) s = rw e (omega arith, refl)
step_few (stretch_too_long t i l e) s = rw e (omega arith, refl)
step_few (StepSays.not_a_mask t i l f e) s = rw e (omega arith, refl)
step_few (text_too_long t i l f k e) s = rw e (omega arith, refl)
step_few (stepped t after found I l M k A E e) s =
    let f = stretch_ends_few E in
    rw e (f, shown found 4096 (omega arith))
