-- `find`: the table's masks are the image's, so the first word is theirs, and with it the whole text is a beginning and one stretch (`begun`).
use Rattle.std.proofs.Common.{ℕ, List, [], ◌∷◌, ap, ap₂, ◌∙◌, subst}
use Rattle.model.specs.Models.Run.{ends_with}
use Rattle.image_sections.specs.declared.Sections.{Sections}
use Rattle.run_word.specs.Ends.{Noted}
use Rattle.run_word.specs.One.{one_masks}
use Rattle.run_word.proofs.Laws.One.{one_first}
use Rattle.run_word.proofs.Laws.Stretch.{begun}
use Rattle.run_word.proofs.ends.find.Goals as goal

pub returns : goal.returns
returns c =
    let a = c.args in
    let ws = a.image.now.words.now in
    let w = c.work_of-work.result in
    let W = c.work_of-work.ensures in
    let r = c.run_over-ran in
    let first = one_first ws w.table w.backs w.depth w.any (W.depth ∙ ap (λ (p : Sections). p.depth) a.image.now.placed.own) W.entered w.none W.edges
    a.image.now.fit (c.close-live.ensures ws) in
    subst (λ (ps : List ℕ). Noted ps a.ends.now r.result.total r.new.ends) (ap₂ (λ (d last : ℕ). ends_with (one_masks ws) d last a.text.now) W.depth W.last)
    (begun (one_masks ws) 1 w.depth w.last a.text.now (c.close-live.result ∷ []) a.ends.now first c.is_live.result c.is_live.ensures
    c.note-found.ensures.counted c.note-found.ensures.written r.ensures)
