-- `read_escape`: a sign or `-` itself, if it is not too low, or the number after `x`.
use mathlib.Core.Path.{◌≡◌, refl, sym, ◌∙◌}
use mathlib.Core.Bool.{true}
use mathlib.Core.List.{◌∷◌}
use Prim.Native.Nat.{◌<◌}
use native.Mathlib.Omega.{arith}
use lib.ListN.{length}
use Rattle.model.specs.Bytes.{byte, signs}
use Rattle.model.specs.Lists.{within}
use Rattle.model.specs.Models.Reader.{read_escape, read_hexes}
use Rattle.rule_letters.specs.Answers.{ByteSays}
use Rattle.rule_letters.proofs.Laws.Escapes.{escape_low, escape_number, escape_other, escape_sign}
use Rattle.rule_bytes.proofs.Laws.Places.{goes, inside, passes, stops, takes}
use Rattle.rule_letters.proofs.escapes.read_escape.Goals as goal

pub returns-then-is_escaped : goal.returns-then-is_escaped
returns-then-is_escaped c =
    let is-escaped : within c.byte_at-x.result (byte "-" ∷ signs) ≡ true = sym c.is_escaped.ensures ∙ c.if-is_escaped.true in
    let a = c.args in
    let b = c.byte_at-x in
    let k = is-escaped in
    takes a.rule.now a.at b.ensures (read_escape a.lo) (passes a.rule.now a.at b.ensures (λ x. within x (byte "-" ∷ signs)) refl k)
    (λ xs. escape_sign a.lo b.result xs k c.if-x-lo.false)

pub returns-then-x-ne120 : goal.returns-then-x-ne120
returns-then-x-ne120 c =
    let b = c.byte_at-x in
    stops c.args.rule.now c.args.at b.ensures (read_escape c.args.lo) c.requires refl
    (λ xs. escape_other c.args.lo b.result xs (sym c.is_escaped.ensures ∙ c.if-is_escaped.false) c.if-x-ne120.true)

pub read_hexes-requires : goal.read_hexes-requires
read_hexes-requires c =
    let is_number : c.args.at < length c.args.rule.now = let a = c.args in inside a.rule.now a.at c.byte_at-x.ensures (λ z. omega arith) in
    let i = is_number in omega arith

pub returns : goal.returns
returns c =
    let is_number : c.args.at < length c.args.rule.now = let a = c.args in inside a.rule.now a.at c.byte_at-x.ensures (λ z. omega arith) in
    let a = c.args in
    let b = c.byte_at-x in
    goes a.rule.now a.at b.ensures (read_escape a.lo) (read_hexes a.lo) (λ m. ByteSays a.rule.now m c.read_hexes.result)
    is_number (λ xs. escape_number a.lo b.result xs c.if-x-ne120.false) c.read_hexes.ensures

pub returns-then-x-lo : goal.returns-then-x-lo
returns-then-x-lo c =
    let is-escaped : within c.byte_at-x.result (byte "-" ∷ signs) ≡ true = sym c.is_escaped.ensures ∙ c.if-is_escaped.true in
    let b = c.byte_at-x in
    stops c.args.rule.now c.args.at b.ensures (read_escape c.args.lo) c.requires refl
    (λ xs. escape_low c.args.lo b.result xs is-escaped c.if-x-lo.true)
