-- `read_upper`: the single alone, or the range up to the second one.
use mathlib.Core.Path.{refl}
use Rattle.model.specs.Grammar.{span}
use Rattle.rule_letters.specs.Classes.{after_lower}
use Rattle.rule_letters.proofs.Laws.Letters.{lower_alone}
use Rattle.rule_bytes.proofs.Laws.Places.{leaves, took_as}
use Rattle.rule_letters.proofs.letters.read_upper.Goals as goal

pub returns-then-byte_at-ne45 : goal.returns-then-byte_at-ne45
returns-then-byte_at-ne45 c =
    let b = c.byte_at in
    took_as c.span.ensures
    (leaves c.args.rule.now c.args.at b.ensures (after_lower c.args.lo) c.requires (span c.args.lo c.args.lo) refl
    (λ xs. lower_alone c.args.lo b.result xs c.if-byte_at-ne45.true))
