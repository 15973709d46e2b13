-- `read_hexes`: no hex digit, one after which every byte is too low, or the second one decides.
use mathlib.Core.Path.{◌≡◌, refl, sym, ◌∙◌}
use mathlib.Core.Bool.{true}
use Rattle.model.specs.Bytes.{hexadecimal}
use Rattle.model.specs.Models.Reader.{read_hex, read_hexes}
use Rattle.rule_letters.specs.Answers.{ByteSays}
use Rattle.rule_letters.proofs.Laws.Escapes.{hexes_go}
use Rattle.rule_bytes.proofs.Laws.Places.{goes, passes}
use native.Mathlib.Omega.{arith}
use Rattle.std.proofs.lemmas.Grind.{common_steps}
use Rattle.rule_letters.proofs.escapes.read_hexes.Goals as goal

pub returns-then-h-lo : goal.returns-then-h-lo
returns-then-h-lo c = grind (arith, common_steps)

pub returns : goal.returns
returns c =
    let is-hex : hexadecimal c.byte_at-x.result ≡ true = sym c.is_hex.ensures ∙ c.if-not-is_hex.false in
    let a = c.args in
    let b = c.byte_at-x in
    goes a.rule.now a.at b.ensures (read_hexes a.lo) (read_hex a.lo c.hex_value-h.result)
    (λ m. ByteSays a.rule.now m c.read_hex.result) (passes a.rule.now a.at b.ensures hexadecimal refl is-hex)
    (λ xs. hexes_go a.lo b.result xs c.hex_value-h.ensures.0 is-hex c.if-h-lo.false) c.read_hex.ensures
