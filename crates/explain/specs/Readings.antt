-- WHAT A READING FITS: a number is at most a million, and there are no more states than there was room for.
use Rattle.std.specs.Prelude.{Err, None, Ok, Option, Result, Some, ℕ, ◌+◌, ◌≤◌}
use Rattle.explain.specs.declared.reading.Claim.{Claim}
use Rattle.explain.specs.declared.reading.Numbered.{Numbered}
use Rattle.explain.specs.declared.reading.Unreadable.{Unreadable}

abbrev pub Small : Option Numbered → Type 0
Small (Some n) = n.number ≤ 1000000
Small None = Unit {0}

abbrev pub Fits : (room : ℕ) → Result Claim Unreadable → Type 0
Fits room (Err u) = u.line ≤ room + 3
Fits room (Ok claim) = claim.count ≤ room
