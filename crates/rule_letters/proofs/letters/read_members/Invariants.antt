-- `read_members`: the loop keeps what is left to read the same as the whole (`Members`); each member takes a byte, so it ends.
use Prim.Native.Nat.{◌-◌}
use lib.ListN.{length}
use Rattle.rule_letters.specs.Classes.{bytes_of}
use Rattle.rule_letters.proofs.Laws.Members.{Members}
use Rattle.rule_letters.proofs.letters.read_members.Given as goal

abbrev pub invariant-loop-member : goal.invariant-loop-member
invariant-loop-member l = Members l.rule l.at (bytes_of l.class) l.p

abbrev pub decreases-loop-member : goal.decreases-loop-member
decreases-loop-member l = length l.rule - l.p
