-- `read_members`: the loop keeps what is left to read the same as the whole (`Members`); each member takes a byte, so it ends.
use native.Mathlib.Omega.{arith}
use Rattle.rule_bytes.proofs.Laws.Answers.{given_on}
use Rattle.rule_letters.proofs.Laws.Members.{members_closed, members_more, members_on, members_stop, no_members}
use Rattle.rule_letters.proofs.Laws.Placed.{class_tells}
use Rattle.rule_letters.proofs.letters.read_members.Goals as goal

pub loop-member-init : goal.loop-member-init
loop-member-init c = no_members c.requires c.none-class.ensures

pub read_member-requires : goal.read_member-requires
read_member-requires c = c.loop-member.invariant.within

pub returns-in_err-member : goal.returns-in_err-member
returns-in_err-member c =
    rw (given_on c.from_residual.ensures.1) (class_tells _ _ _ c.requires (members_stop c.loop-member.invariant c.in_err-member.ensures))

pub returns-then-byte_at-eq93 : goal.returns-then-byte_at-eq93
returns-then-byte_at-eq93 c =
    class_tells _ _ _ c.requires
    (members_closed c.loop-member.invariant c.in_ok-member.ensures c.byte_at.ensures c.or-class.ensures c.if-byte_at-eq93.true)

pub loop-member-smaller : goal.loop-member-smaller
loop-member-smaller c =
    let t = c.in_ok-member.ensures in
    let i = t.inside in
    let o = members_on c.loop-member.invariant t in
    omega arith

pub loop-member-preserved : goal.loop-member-preserved
loop-member-preserved c =
    members_more c.loop-member.invariant c.in_ok-member.ensures c.byte_at.ensures c.or-class.ensures c.if-byte_at-eq93.false
