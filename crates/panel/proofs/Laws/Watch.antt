-- THE WATCH'S COUNTS FIT: place 0 is at most one end, and a stretch of at most 65,535 bytes has at most as many. So the number given to C tells number and
-- count, and where the table has one answer, so has the call.
use mathlib.Core.Path.{◌≡◌, ap}
use mathlib.Core.List.{List, []}
use Prim.Native.Nat.{ℕ, ◌≤◌}
use native.Mathlib.Omega.{arith}
use Rattle.model.specs.Models.Words.{Fit}
use Rattle.model.specs.Watch.{BeginSays, begun, not_a_mask, not_an_image, stepped, StepSays, stretch_too_long, text_too_long, Watch, Watched}
use Rattle.model.proofs.Watch.Answers.{begin_one, step_one}
use Rattle.model.proofs.Words.Run.{Bytes}
use Rattle.watcher.proofs.Laws.Ends.{ends_few, stretch_ends_few}
use Rattle.panel.specs.Says.{Gives, itself}
use Rattle.panel.proofs.Laws.Given.{Apart, apart, one_given}

-- ---- BEGIN
module _ {words mask : List ℕ} {place : ℕ} {ends : List ℕ} where
  pub begun_small : {a : Watched} → BeginSays words mask place ends a → (a.place ≡ 0) × (a.given ≤ 1)
  begun_small (not_an_image n e) = (ap (λ (a : Watched). a.place) e, omega (arith, ap (λ (a : Watched). a.given) e))
  begun_small (not_a_mask t i f e) = (ap (λ (a : Watched). a.place) e, omega (arith, ap (λ (a : Watched). a.given) e))
  begun_small (begun t first found i l A E e) = (ap (λ (a : Watched). a.place) e, omega (arith, ap (λ (a : Watched). a.given) e, ends_few t [] found E))

  module _ {r : ℕ} {after : Watch} (G : Gives itself (BeginSays words mask place ends) r after) where
    pub begin_apart : Apart G
    begin_apart = let k = begun_small G.says in apart G k.0 (omega (arith, k.1))

    pub begin_given : {q : ℕ} {later : Watch} → Gives itself (BeginSays words mask place ends) q later → (r ≡ q) × (after ≡ later)
    begin_given = one_given G (begin_one words mask place ends)

-- ---- STEP
module _ {words mask : List ℕ} {place : ℕ} {stretch ends : List ℕ} where
  pub stepped_small : {a : Watched} → StepSays words mask place stretch ends a → (a.place ≡ 0) × (a.given ≤ 65535)
  stepped_small (not_an_image n e) = (ap (λ (a : Watched). a.place) e, omega (arith, ap (λ (a : Watched). a.given) e))
  stepped_small (stretch_too_long t i l e) = (ap (λ (a : Watched). a.place) e, omega (arith, ap (λ (a : Watched). a.given) e))
  stepped_small (not_a_mask t i l f e) = (ap (λ (a : Watched). a.place) e, omega (arith, ap (λ (a : Watched). a.given) e))
  stepped_small (text_too_long t i l f k e) = (ap (λ (a : Watched). a.place) e, omega (arith, ap (λ (a : Watched). a.given) e))
  stepped_small (stepped t after found i l f k A E e) = (ap (λ (a : Watched). a.place) e, omega (arith, ap (λ (a : Watched). a.given) e, stretch_ends_few E))

  module _ {r : ℕ} {after : Watch} (G : Gives itself (StepSays words mask place stretch ends) r after) where
    pub step_apart : Apart G
    step_apart = let k = stepped_small G.says in apart G k.0 (omega (arith, k.1))

    pub step_given : {q : ℕ} {later : Watch} → Fit mask → Bytes stretch → Gives itself (StepSays words mask place stretch ends) q later → (r ≡ q) × (after ≡ later)
    step_given F Y = one_given G (step_one words mask place stretch ends F Y)
