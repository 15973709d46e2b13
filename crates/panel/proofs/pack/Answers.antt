-- Number, and place or count, in one: no refusal's number passes 17, and a refusal has count 0.
use Prim.Native.Nat.{◌+◌, ◌^◌, ◌<◌}
use native.Mathlib.Omega.{arith}
use Rattle.std.specs.Prelude.{Err}
use Rattle.answers.specs.Answers.{place_in}
use Rattle.answers.proofs.Apart.{number_known}
use Rattle.panel.proofs.pack.Goals as goal

pub overflow_mul-result : goal.overflow_mul-result
overflow_mul-result c = omega (arith, c.number.ensures, (number_known c.in-Err.refusal).1)

pub overflow_add-result : goal.overflow_add-result
overflow_add-result c =
    let k : place_in (Err c.in-Err.refusal) + 0 < 2 ^ 32 = rw c.in-Err.is at c.requires in
    omega (arith, c.number.ensures, c.place.ensures, (number_known c.in-Err.refusal).1, k)

pub returns-in-Err : goal.returns-in-Err
returns-in-Err c = rw c.in-Err.is (omega (arith, c.number.ensures, c.place.ensures))

pub returns-in-Ok : goal.returns-in-Ok
returns-in-Ok c = rw c.in-Ok.is (omega arith)
