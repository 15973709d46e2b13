-- `compare::same_masks`: at the first word that differs the sections do, and where none does they are the same.
use mathlib.Core.Path.{refl, ◌∙◌}
use Rattle.std.proofs.Common.{rules}
use Rattle.image_sections.proofs.Laws.Within.{within}
use Rattle.image_check.proofs.Laws.Compare.Masks.{depths_all, depths_none, mask_differs, mask_same, planes_all, planes_none}
use Rattle.image_check.proofs.compare.same_masks.Goals as goal

pub search-init : goal.search-init
search-init g c = let r = c.requires in (refl, depths_none (within c.args.image.now.placed).narrow r.0 r.2 (search rules) r.1)

pub loop-which-init : goal.loop-which-init
loop-which-init g c = (c.search.invariant.0, planes_none c.search.invariant.1 c.search-test.true)

pub loop-which-preserved : goal.loop-which-preserved
loop-which-preserved g c = (
  c.loop-j.invariant.0,
  mask_same c.search.invariant.1 c.search-test.true c.loop-which.invariant.1 c.loop-which-test.true c.row_of-row.ensures c.loop-j.invariant.1 c.loop-j-test.false,
)

pub search-preserved : goal.search-preserved
search-preserved g c = (c.loop-which.invariant.0, planes_all c.search.invariant.1 c.search-test.true c.loop-which.invariant.1 c.loop-which-test.false)

pub returns-after-search : goal.returns-after-search
returns-after-search g c = c.search.invariant.0 ∙ depths_all c.search.invariant.1 c.search-test.false

pub returns-then-words-from : goal.returns-then-words-from
returns-then-words-from g c =
    mask_differs c.search.invariant.1 c.search-test.true c.loop-which.invariant.1 c.loop-which-test.true c.row_of-row.ensures c.loop-j-test.true c.if-words-from.true
