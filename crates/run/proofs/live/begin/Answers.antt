-- `begin`: both rounds from state 0.
use mathlib.Core.Path.{◌≡◌, ap, ap₂, ◌∙◌}
use Rattle.model.specs.Models.Run.{close_words}
use native.Mathlib.Omega.{arith}
use lib.ListN.{length}
use Rattle.image_sections.proofs.Laws.Within.{own_depth}
use Rattle.run.specs.Work.{masks_of}
use Rattle.run.proofs.Image.Live.{begin_says}
use Rattle.run.proofs.Laws.Widths.{close_whole}
use borrow.Author.Rules.{rules}
use Rattle.run.proofs.live.begin.Goals as goal

pub returns : goal.returns
returns c =
    let f = c.start-first in
    let ws = c.args.image.now.words.now in
    let long : length c.close_of.result.words ≡ 8 = search rules in
    begin_says ws c.close_of.result.words
    (close_whole (masks_of ws) c.args.image.now.sections.depth f.result.words c.close_of.result.words (omega (arith, ap length f.ensures)) (omega (arith, long)) c.close_of.ensures
    ∙ ap₂ (close_words (masks_of ws)) (own_depth c.args.image.now.placed) f.ensures)
