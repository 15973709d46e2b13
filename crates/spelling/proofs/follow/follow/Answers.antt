-- `follow`: each turn leaves less to follow, or shows that nothing can.
use borrow.Author.Rules.{rules}
use mathlib.Core.Path.{◌≡◌, sym, ◌∙◌, subst}
use native.Mathlib.Omega.{arith}
use lib.Dec.{T}
use lib.ListN.{drop}
use Rattle.std.specs.Iterator.Adapters.{zip_first, zip_second}
use Rattle.std.specs.Slice.Iter.{iter_rest}
use Rattle.std.proofs.lemmas.Grind.{common_steps}
use Rattle.std.proofs.lemmas.Slice.Zip.{either_empty_from_Zip}
use Rattle.spelling.proofs.Laws.Follow.{going_all, going_ends, going_more, going_stops}
use Rattle.spelling.proofs.follow.follow.Goals as goal

pub loop-byte-init : goal.loop-byte-init
loop-byte-init c =
    let a = c.args in
    let k = c.into_iter-byte-iterator.result in
    let all : iter_rest (zip_first k) ≡ drop a.start a.text.now = grind (arith, common_steps) in
    let each : iter_rest (zip_second k) ≡ a.states.now = search rules in
    going_all a.text.now a.start c.requires all each

pub returns-then-not-has_bit : goal.returns-then-not-has_bit
returns-then-not-has_bit c = λ t I a. (
  λ f. absurd f,
  going_stops c.loop-byte.invariant c.in-Some.ensures.steps c.reach-from.ensures.reached c.enter-entered.ensures.entered
      (sym c.has_bit.ensures ∙ c.if-not-has_bit.true) t I,
)

pub loop-byte-preserved : goal.loop-byte-preserved
loop-byte-preserved c =
    going_more c.loop-byte.invariant c.in-Some.ensures.steps c.reach-from.ensures.reached c.enter-entered.ensures.entered
    (subst T (sym (c.if-not-has_bit.false) ∙ c.has_bit.ensures) tt)

pub returns : goal.returns
returns c =
    let none = either_empty_from_Zip c.loop-byte.byte-iterator c.next.new.self c.next.result c.in-None.is c.next.ensures.steps in
    going_ends c.loop-byte.invariant none c.reach-from-2.ensures.reached c.has_bit-2.result c.has_bit-2.ensures
