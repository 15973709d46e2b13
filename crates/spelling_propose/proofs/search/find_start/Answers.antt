-- `find_start`: at each place the set is known, no later place is a start, and the sets of each 256th place from it on are kept.
use mathlib.Core.Path.{◌≡◌, subst, sym, ◌∙◌}
use Prim.Native.Nat.{◌+◌, ◌-◌}
use native.Mathlib.Omega.{arith}
use borrow.Author.Rules.{rules}
use lib.Dec.{T}
use lib.ListN.{length, replicate}
use lib.Pointwise.{bytes_decides}
use Rattle.spelling_propose.specs.Work.{Has}
use Rattle.spelling_propose.proofs.Laws.Origins.{none_has}
use Rattle.spelling_propose.proofs.Laws.Search.{backed_empty, backed_end, backed_here, backed_kept, backed_nowhere, backed_past}
use Rattle.spelling_propose.proofs.search.find_start.Goals as goal

pub loop-k-init : goal.loop-k-init
loop-k-init c =
    let a = c.args in
    let long : length a.kept.now ≡ 256 = search rules in
    backed_end a.origins.now.edges.now.image.words.now a.text.now a.end c.requires c.ending-set.result a.kept.now long c.ending-set.ensures

pub returns-then-row_has_bit : goal.returns-then-row_has_bit
returns-then-row_has_bit c =
    let a = c.args in
    let k = c.loop-k.k in
    let e : k - 1 + 1 ≡ k = omega (arith, c.loop-k-test.true) in
    rw e (backed_here a.origins.now.edges.now.image.words.now a.text.now a.end c.requires c.loop-k.invariant (subst T (sym c.if-row_has_bit.true ∙ c.row_has_bit.ensures) tt))

pub returns-then-eq : goal.returns-then-eq
returns-then-eq c =
    let a = c.args in
    let e = (bytes_decides c.loop-k.set (replicate 8 0)).0 (sym c.eq.ensures ∙ c.if-eq.true) in
    backed_empty a.origins.now.edges.now.image.words.now a.text.now a.end c.requires c.loop-k.invariant (λ x h. none_has x (subst (λ w. Has w x) e h))

pub loop-k-preserved-then-k-eq0 : goal.loop-k-preserved-then-k-eq0
loop-k-preserved-then-k-eq0 c =
    let a = c.args in
    backed_kept a.origins.now.edges.now.image.words.now a.text.now a.end c.requires c.loop-k.invariant c.loop-k-test.true (sym c.row_has_bit.ensures ∙ c.if-row_has_bit.false)
    c.back-set.result c.back-set.ensures c.if-k-eq0.true

pub loop-k-preserved : goal.loop-k-preserved
loop-k-preserved c =
    let a = c.args in
    backed_past a.origins.now.edges.now.image.words.now a.text.now a.end c.requires c.loop-k.invariant c.loop-k-test.true (sym c.row_has_bit.ensures ∙ c.if-row_has_bit.false)
    c.back-set.result c.back-set.ensures c.if-k-eq0.false

pub returns-then-row_has_bit-2 : goal.returns-then-row_has_bit-2
returns-then-row_has_bit-2 c =
    let a = c.args in
    let e : c.loop-k.k ≡ 0 = omega (arith, c.loop-k-test.false) in
    rw e at (backed_here a.origins.now.edges.now.image.words.now a.text.now a.end c.requires c.loop-k.invariant (subst T (sym c.if-row_has_bit-2.true ∙ c.row_has_bit-2.ensures) tt))

pub returns-else-row_has_bit-2 : goal.returns-else-row_has_bit-2
returns-else-row_has_bit-2 c =
    let a = c.args in
    backed_nowhere a.origins.now.edges.now.image.words.now a.text.now a.end c.requires c.loop-k.invariant (sym c.row_has_bit-2.ensures ∙ c.if-row_has_bit-2.false)
    (omega (arith, c.loop-k-test.false))
