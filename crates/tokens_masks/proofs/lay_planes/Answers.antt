-- `lay_planes`: of a tree's tape the scan has marked what is laid out, and any other has none.
use Rattle.std.proofs.Common.{rules}
use Rattle.tokens_masks.proofs.InWords.{blank_held}
use Rattle.tokens_masks.proofs.Scanning.{planes_other}
use Rattle.tokens_masks.proofs.lay_planes.Goals as goal

pub scan_tape-on_tape-requires : goal.scan_tape-on_tape-requires
scan_tape-on_tape-requires c = blank_held (search rules) (c.fill.ensures.after (λ y e. e))

pub returns-then-is_none-clause-planes : goal.returns-then-is_none-clause-planes
returns-then-is_none-clause-planes c =
    planes_other c.args.tape c.scan_tape-on_tape.ensures.told _ c.if-is_none.ensures
    (blank_held (search rules) (c.fill-then-is_none.ensures.after (λ y e. e)))
