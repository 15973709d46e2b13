-- `kind_of`: the table is what the rule gives for the bytes 0 to 255, one entry after the other, as the checker computes; so each entry is.
use Prim.Native.Nat.{ℕ}
use Rattle.model.specs.Bytes.{kind}
use Rattle.rule_bytes.specs.Kinds.{in_table}
use Rattle.rule_bytes.proofs.Laws.Table.{entry}
use Rattle.rule_bytes.proofs.kind_of.Goals as goal

pub returns : goal.returns
returns c = entry _ (λ (b : ℕ). in_table (kind b)) 256 c.args.b c.ranges.b.fits
