-- `sections::put_depth`: each mask is written where the mask before it ends. Which row it is, is searched for: however its plane is written, it is that one.
use mathlib.Core.Path.{◌≡◌, ap, ◌∙◌}
use mathlib.Core.List.{List}
use Prim.Native.Nat.{ℕ, ◌+◌, ◌*◌}
use borrow.Author.Rules.{rules}
use lib.ListN.{take}
use lib.Seq.{sets}
use Rattle.tokens_masks.specs.Masks.{row_in, row_number}
use Rattle.image.proofs.Laws.Parts.{parts_more}
use Rattle.image.proofs.sections.put_depth.Goals as goal

pub loop-j-preserved : goal.loop-j-preserved
loop-j-preserved g c =
    let a = c.args in
    let l = c.loop-j in
    let row : c.row_of-row.result ≡ row_in a.masks.now (row_number a.depth (a.first + l.j)) = search rules in
    parts_more l.invariant c.loop-j-test.true (c.put_row.ensures ∙ ap (λ (row : List ℕ). sets l.words (a.at + a.width * l.j) (take a.width row)) row)
