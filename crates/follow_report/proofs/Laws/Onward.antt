-- A PROGRAM THAT GOES ON has an image, and with each stretch its watch goes by as many places, not past 4,294,967,295: so its loop ends.
use Rattle.std.specs.Prelude.{Some}
use Rattle.std.proofs.Common.{◌≡◌, ℕ, ◌+◌, ◌≤◌, List, length, sym, ap, ◌∙◌, arith}
use Rattle.model.specs.Watch.{stepped, StepSays, stretch_too_long, text_too_long, Watched}
use Rattle.program_lines.proofs.Laws.Room.{build_fits}
use Rattle.follow_report.specs.Follow.{built, Hears, Kept, Next, on, Opens, stopped, Told}
use Rattle.follow_report.specs.Work.{kept_in, next_in, next_with}
use Rattle.follow_report.specs.declared.Said.{Said}
use Rattle.follow_report.specs.declared.Watching.{Watching}

-- ---- where an answer's place is
step_place : {words mask stretch lent : List ℕ} {place : ℕ} {a : Watched} → StepSays words mask place stretch lent a → a.number ≡ 0
    → (a.lent.place ≡ place + length stretch) × (a.lent.place ≤ 4294967295)
step_place (StepSays.not_an_image f e) z = absurd (omega (arith, z, ap (λ (a : Watched). a.number) e))
step_place (stretch_too_long t i l e) z = absurd (omega (arith, z, ap (λ (a : Watched). a.number) e))
step_place (StepSays.not_a_mask t i l f e) z = absurd (omega (arith, z, ap (λ (a : Watched). a.number) e))
step_place (text_too_long t i l f k e) z = absurd (omega (arith, z, ap (λ (a : Watched). a.number) e))
step_place (stepped t after found I l M k A E e) z = omega (arith, ap (λ (a : Watched). a.lent.place) e, k)

-- ---- where the program is that goes on
abbrev place_of : Next → ℕ
place_of (on kept) = kept.place
place_of stopped = 0

pub never : {kept : Kept} → on kept ≡ stopped → ⊥
never p = let z : ◌≡◌ {A = ℕ} 0 1 = cc in omega arith

goes_on : (words : List ℕ) (r : Said) {next : Watching} → r.watching ≡ Some next → next_in words r ≡ on (kept_in words next)
goes_on words r e = ap (next_with words) e

told_place : (words : List ℕ) (r : Said) {next : Watching} {w : Watched} {total : ℕ} {text : List ℕ} → r.watching ≡ Some next → Told w total (next_in words r) text
    → (w.number ≡ 0) × (next.place ≡ w.lent.place)
told_place words r e (Told.found z n t) = (z, ap place_of (sym (goes_on words r e) ∙ n))
told_place words r e (Told.refused z n t) = absurd (never (sym (goes_on words r e) ∙ n))

pub heard_place : (words : List ℕ) (w : Watching) (r : Said) {next : Watching} {stretch text : List ℕ} → r.watching ≡ Some next
    → Hears words (kept_in words w) stretch (next_in words r) text
    → (next.place ≡ w.place + length stretch) × (next.place ≤ 4294967295)
heard_place words w r e H =
    let t = told_place words r e H.told in
    omega (arith, t.1, step_place H.says t.0)

-- ---- an image that a watch is begun with lies in the words lent
pub opened_words : (words : List ℕ) (r : Said) {next : Watching} {rule lent after text : List ℕ} {n : ℕ} → r.watching ≡ Some next → Opens rule lent n after (next_in words r) text → n ≤ length lent
opened_words words r e (built B b) = (build_fits B).count
opened_words words r e (Opens.refused a B l k n t) = absurd (never (sym (goes_on words r e) ∙ n))
