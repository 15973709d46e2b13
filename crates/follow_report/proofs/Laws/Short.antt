-- NO TEXT IS LONGER THAN 45,056 BYTES, and none at the opening than 18: a place of the journal has at most ten digits, so what is written for a stretch
-- has at most 4,096 lines of 11 bytes; and one of the rule has at most four.
use Rattle.std.proofs.Common.{ℕ, ◌*◌, ◌^◌, ◌<◌, ◌≤◌, max, List, [], ◌∷◌, length, take, replicate, ap, arith, length-take}
use lib.ListN.{length-replicate}
use Rattle.model.specs.Answers.{done}
use Rattle.model.specs.Lists.{◌∈◌, All}
use Rattle.model.specs.Watch.{BeginSays, begun, found_by, stepped, StepSays, stretch_too_long, text_too_long, Watched}
use Rattle.model.proofs.Laws.Lists.{all_of}
use Rattle.watcher.proofs.Laws.Ends.{end_within}
use Rattle.program_lines.specs.Lines.{end_lines, total_text}
use Rattle.program_lines.proofs.Laws.Numbers.{ends_short, number_short, refused_short}
use Rattle.program_lines.proofs.Laws.Room.{all_done, all_take, all_zeros, build_fits, room_kept}
use Rattle.follow_report.specs.Follow.{Begins, built, Hears, Kept, Next, Opens, Told}

abbrev Near : ℕ → Type 0
Near p = p < 10 ^ 10

near_all : (ps : List ℕ) → ((p : ℕ) → p ∈ ps → p ≤ 4294967295) → All Near ps
near_all ps f = all_of Near ps (λ p h. omega (arith, f p h))

-- what lies in a room of k places, in lines
room_short : (found : List ℕ) (k n : ℕ) → All Near found → length (end_lines (take n (done found (replicate k 0)).lent)) ≤ k * 11
room_short found k n F =
    let lent = (done found (replicate k 0)).lent in
    let few : length (take n lent) ≤ k = omega (arith, length-take n lent, room_kept found (replicate k 0), length-replicate {A = ℕ} k 0) in
    omega (arith, few, ends_short 9 (take n lent) (all_take Near n lent (all_done Near found (replicate k 0) F (all_zeros Near (omega arith) k))))

-- an answer of the watch, with room for k ends
abbrev Short : ℕ → Watched → Type 0
Short k a = (a.number < 100) × (a.place < 10000) × (length (end_lines (found_by a)) ≤ k * 11)

begin_short : {words mask : List ℕ} {place : ℕ} {a : Watched} → BeginSays words mask place (0 ∷ []) a → Short 1 a
begin_short (BeginSays.not_an_image f e) = rw e (omega arith)
begin_short (BeginSays.not_a_mask t i f e) = rw e (omega arith)
begin_short (begun t first found I k A E e) = rw e (omega arith, omega arith, room_short found 1 (length found) (near_all found (λ p h. omega (arith, end_within t [] found E p h))))

step_short : {words mask : List ℕ} {place : ℕ} {stretch : List ℕ} {a : Watched} → StepSays words mask place stretch (replicate 4096 0) a → Short 4096 a
step_short (StepSays.not_an_image f e) = rw e (omega arith)
step_short (stretch_too_long t i l e) = rw e (omega arith)
step_short (StepSays.not_a_mask t i l f e) = rw e (omega arith)
step_short (text_too_long t i l f k e) = rw e (omega arith)
step_short (stepped t after found I l M k A E e) =
    rw e (omega arith, omega arith, room_short found 4096 (length found) (near_all found (λ p h. let (i, a, b, c, d) = E.ends p h in omega (arith, a, c, k))))

-- ---- THE TEXTS
told_short : {w : Watched} {total : ℕ} {next : Next} {text : List ℕ} (k : ℕ) → Short k w → Told w total next text → length text ≤ max (k * 11) 18
told_short k S (Told.found z n e) = omega (arith, ap length e, S.2)
told_short {w} k S (Told.refused z n e) = omega (arith, ap length e, refused_short 3 w.number w.place S.0 S.1)

begins_short : {words : List ℕ} {next : Next} {text : List ℕ} → Begins words next text → length text ≤ 18
begins_short B = told_short 1 (begin_short B.says) B.told

pub opens_short : {rule lent after text : List ℕ} {n : ℕ} {next : Next} → Opens rule lent n after next text → length text ≤ 18
opens_short (built B b) = begins_short b
opens_short (Opens.refused a B l k n e) = omega (arith, ap length e, refused_short 3 a.number a.place (omega (arith, (build_fits B).number)) (build_fits B).place)

pub hears_short : {words stretch text : List ℕ} {kept : Kept} {next : Next} → Hears words kept stretch next text → length text ≤ 45056
hears_short H = told_short 4096 (step_short H.says) H.told

pub total_short : (n : ℕ) → n < 2 ^ 64 → length (total_text n) ≤ 45056
total_short n l = omega (arith, number_short 19 n (omega (arith, l)))
