-- Ten digits at most, a blank, four bytes at most, a word of seven, and ten digits and the line's end: 33 bytes at most.
use Prim.Native.Nat.{◌+◌, ◌≤◌}
use native.Mathlib.Omega.{arith}
use Rattle.explain.proofs.record.put_step.Goals as goal

pub write_byte-third-requires : goal.write_byte-third-requires
write_byte-third-requires c =
    let after-blank : c.put-second.result ≤ c.args.at + 11 = omega (arith, c.put-second.ensures.place, c.put_place-first.ensures) in
    omega (arith, after-blank, c.requires)
