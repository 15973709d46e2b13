-- A TOKEN'S TEXT is at most 4096 bytes long: none is longer than a class's with a sign.
use Prim.Native.Nat.{ℕ, ◌≤◌}
use native.Mathlib.Omega.{arith}
use lib.ListN.{length}
use Rattle.writing_letters.proofs.Laws.Bounds.{letter_short}
use Rattle.tokens.specs.Tokens.{repeat_of}
use Rattle.tokens.specs.declared.token.Mark.TheVariants.{Optional, Starred, Unmarked}
use Rattle.tokens.specs.declared.token.Token.{Token}
use Rattle.tokens.specs.declared.token.Token.TheVariants.{Bar, Close, Letter, Open}
use Rattle.writing.specs.Work.{token_text}

pub token_short : (c : ℕ) (y : Token) → length (token_text c y) ≤ 4096
token_short c (Letter r) = omega (arith, letter_short c (repeat_of r))
token_short c Open = omega arith
token_short c Bar = omega arith
token_short c (Close Unmarked) = omega arith
token_short c (Close Optional) = omega arith
token_short c (Close Starred) = omega arith
