-- `read_single`: a bare byte itself, if it is not too low, or the escape after `\`.
use mathlib.Core.Path.{◌≡◌, refl, sym, ◌∙◌}
use mathlib.Core.Bool.{true}
use Prim.Native.Nat.{◌<◌}
use native.Mathlib.Omega.{arith}
use lib.ListN.{length}
use Rattle.model.specs.Grammar.{bare}
use Rattle.model.specs.Models.Reader.{read_escape, read_single}
use Rattle.rule_letters.specs.Answers.{ByteSays}
use Rattle.rule_letters.proofs.Laws.Letters.{single_bare, single_escape, single_low, single_other}
use Rattle.rule_bytes.proofs.Laws.Places.{goes, inside, passes, stops, takes}
use Rattle.rule_letters.proofs.Laws.Placed.{single_tells}
use Rattle.rule_letters.proofs.letters.read_single.Goals as goal

pub returns-then-is_bare : goal.returns-then-is_bare
returns-then-is_bare c =
    let is-bare : bare c.byte_at-x.result ≡ true = sym c.is_bare.ensures ∙ c.if-is_bare.true in
    let a = c.args in
    let b = c.byte_at-x in
    let k = is-bare in
    single_tells _ _ _ _ (omega arith) c.requires
    (takes a.rule.now a.at b.ensures (read_single a.lo) (passes a.rule.now a.at b.ensures bare refl k)
    (λ xs. single_bare a.lo b.result xs k c.if-x-lo.false))

pub returns-then-x-ne92 : goal.returns-then-x-ne92
returns-then-x-ne92 c =
    let b = c.byte_at-x in
    single_tells _ _ _ _ (omega arith) c.requires
    (stops c.args.rule.now c.args.at b.ensures (read_single c.args.lo) c.requires refl
    (λ xs. single_other c.args.lo b.result xs (sym c.is_bare.ensures ∙ c.if-is_bare.false) c.if-x-ne92.true))

pub read_escape-requires : goal.read_escape-requires
read_escape-requires c =
    let is-escape : c.args.at < length c.args.rule.now = let a = c.args in inside a.rule.now a.at c.byte_at-x.ensures (λ z. omega arith) in
    let i = is-escape in omega arith

pub returns : goal.returns
returns c =
    let is-escape : c.args.at < length c.args.rule.now = let a = c.args in inside a.rule.now a.at c.byte_at-x.ensures (λ z. omega arith) in
    let a = c.args in
    let b = c.byte_at-x in
    single_tells _ _ _ _ (omega arith) c.requires
    (goes a.rule.now a.at b.ensures (read_single a.lo) (read_escape a.lo) (λ m. ByteSays a.rule.now m c.read_escape.result)
    is-escape (λ xs. single_escape a.lo b.result xs c.if-x-ne92.false) c.read_escape.ensures)

pub returns-then-x-lo : goal.returns-then-x-lo
returns-then-x-lo c =
    let is-bare : bare c.byte_at-x.result ≡ true = sym c.is_bare.ensures ∙ c.if-is_bare.true in
    let b = c.byte_at-x in
    single_tells _ _ _ _ (omega arith) c.requires
    (stops c.args.rule.now c.args.at b.ensures (read_single c.args.lo) c.requires refl
    (λ xs. single_low c.args.lo b.result xs is-bare c.if-x-lo.true))
