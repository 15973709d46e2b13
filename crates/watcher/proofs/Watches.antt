-- THE WATCH OVER THE CONTRACTS of begin and step: what is given and lent settles their answers, and for every cutting of a text the ends joined and the last
-- mask are document 01's for the whole text. They hold because each table gives one answer to an input (`begin_one`, `step_one`), and by `cutting`.
use mathlib.Core.Path.{◌≡◌}
use mathlib.Core.List.{List}
use Prim.Native.Nat.{ℕ, ◌≤◌}
use lib.ListN.{length}
use Rattle.std.specs.Prelude.{Result}
use Rattle.model.specs.Answers.{ImageOf}
use Rattle.model.specs.Edges.{states}
use Rattle.model.specs.Image.{width}
use Rattle.model.specs.Lists.{All}
use Rattle.model.specs.Models.Words.{Fit}
use Rattle.model.specs.Tree.{Tree}
use Rattle.model.specs.Watch.{BeginSays, Call, Calls, Cutting, Fair, Room, StepSays, text_of, Watch}
use Rattle.model.proofs.Watch.Answers.{begin_one, step_one}
use Rattle.model.proofs.Watch.Cuttings.{cutting}
use Rattle.model.proofs.Words.Run.{Bytes}
use Rattle.answers.specs.Answers.{answered}
use Rattle.answers.specs.declared.Refusal.{Refusal}
use Rattle.answers.proofs.Apart.{answered_apart}

-- ---- WHAT IS GIVEN AND LENT SETTLES THE ANSWER and all that was lent, afterwards
pub one_begun : {words mask ends : List ℕ} {place : ℕ} {after later : Watch} (r q : Result ℕ Refusal) → BeginSays words mask place ends (answered r after)
    → BeginSays words mask place ends (answered q later) → (r ≡ q) × (after ≡ later)
one_begun {words} {mask} {ends} {place} {after} {later} r q B C = answered_apart r q (begin_one words mask place ends (answered r after) (answered q later) B C)

pub one_stepped : {words mask stretch ends : List ℕ} {place : ℕ} {after later : Watch} (r q : Result ℕ Refusal) → Fit mask → Bytes stretch
    → StepSays words mask place stretch ends (answered r after) → StepSays words mask place stretch ends (answered q later) → (r ≡ q) × (after ≡ later)
one_stepped {words} {mask} {stretch} {ends} {place} {after} {later} r q F Y B C =
    answered_apart r q (step_one words mask place stretch ends F Y (answered r after) (answered q later) B C)

-- ---- CUTTINGS: a beginning as the contract of `begin` has it, and then calls of `step`, each as its contract has it (`Calls`), from the mask and the place
-- that the one before left
pub cuttings : {words mask ends : List ℕ} {place : ℕ} (t : Tree) → ImageOf words t → length mask ≡ width (states t) → (r : Result ℕ Refusal) (first : Watch)
    → BeginSays words mask place ends (answered r first) → Room ends (answered r first) → (cs : List Call) → Calls words first.mask first.place cs → All Fair cs
    → length (text_of cs) ≤ 4294967295 → Cutting t (answered r first) cs
cuttings {words} {mask} {ends} {place} t I w r first B R cs S F l = cutting words t I mask place ends (answered r first) cs w B R S F l
