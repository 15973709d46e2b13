-- `lead_back`: the targets by what is seen of all 64 places, with a source above or without.
use mathlib.Core.Path.{sym, ap, ◌∙◌}
use mathlib.Core.Bool.{Bool}
use Rattle.model.specs.Models.Run.{back_word}
use Rattle.run_back.proofs.Laws.Words.{back_above, back_none}
use Rattle.run_back.proofs.lead_back.Goals as goal

pub returns-then-above : goal.returns-then-above
returns-then-above c =
    let k = c.look-near in
    let a = c.args in
    back_above a.source a.target a.live k.result k.ensures c.ranges.target.fits c.struct_known-then-above-1.given.0.fits
    ∙ sym (ap (λ (b : Bool). back_word b a.source a.target a.live) c.if-above.true)

pub returns : goal.returns
returns c =
    let k = c.look-near in
    let a = c.args in
    back_none a.source a.target a.live k.result k.ensures c.ranges.target.fits
    ∙ sym (ap (λ (b : Bool). back_word b a.source a.target a.live) c.if-above.false)
