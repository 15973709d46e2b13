-- `compare::same_repeats`: at the first word that differs the sections do, and where none does they are the same.
use mathlib.Core.Path.{refl, sym, ◌∙◌}
use Prim.Native.Nat.{◌<◌}
use native.Mathlib.Omega.{arith}
use Rattle.std.proofs.Common.{rules}
use Rattle.image_sections.proofs.Laws.Within.{within}
use Rattle.image_check.proofs.Laws.Compare.{fails, passes, same-all}
use Rattle.image_check.proofs.Laws.Compare.Repeats.{repeat_differs, repeat_same, repeats_none}
use Rattle.image_check.proofs.compare.same_repeats.Goals as goal

pub search-init : goal.search-init
search-init c = (refl, repeats_none c.args.image.now.words.now c.args.loops (within c.args.image.now.placed) (search rules))

pub search-preserved : goal.search-preserved
search-preserved c =
    let a = c.args in
    let b : c.search.byte < 256 = omega (arith, c.search-test.true) in
    let same = repeat_same a.image.now.words.now a.loops (within a.image.now.placed) (search rules) b
    (λ j h. c.loop-j.invariant.1 j (omega (arith, h, c.loop-j-test.false)))
    in
    (c.loop-j.invariant.0, passes c.search.invariant.1 b same refl)

pub returns-after-search : goal.returns-after-search
returns-after-search c = c.search.invariant.0 ∙ sym (same-all c.search.invariant.1 c.search-test.false)

pub returns-then-words-repeats : goal.returns-then-words-repeats
returns-then-words-repeats c =
    let a = c.args in
    let b : c.search.byte < 256 = omega (arith, c.search-test.true) in
    fails c.search.invariant.1 b
    (repeat_differs a.image.now.words.now a.loops (within a.image.now.placed) (search rules) b c.loop-j.j c.loop-j-test.true
    c.if-words-repeats.true)
    refl
