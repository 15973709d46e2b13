-- `find_words`: place 0 noted, and then the places after it (`begun`); the table holds the masks of the words, of which only the first words count
-- (`work_ends`).
use mathlib.Core.Path.{◌≡◌, sym, ap, ap₂, ◌∙◌, subst}
use mathlib.Core.List.{List}
use Prim.Native.Nat.{ℕ, ◌-◌}
use native.Mathlib.Omega.{arith}
use lib.ListN.{length, take}
use Rattle.model.specs.Models.Run.{close_words, ends_with}
use Rattle.image_sections.proofs.Laws.Within.{own_depth, own_placed, own_states, own_width, within, words_fit}
use Rattle.run_word.specs.Ends.{Noted}
use Rattle.run_word.proofs.Laws.Bytes.{all_bytes}
use Rattle.run_word.proofs.Laws.Cut.{take_bit}
use Rattle.run_word.proofs.Laws.Stretch.{begun, noted_few}
use Rattle.run.specs.Work.{masks_of, rule_masks}
use Rattle.run.proofs.Laws.Table.{close_wide, overs, tabled_of, work_ends}
use Rattle.run.proofs.ends.find_words.Goals as goal

pub run_over-ran-requires : goal.run_over-ran-requires
run_over-ran-requires c =
    let m = c.of-masks in
    let small = c.requires.1 in
    overs c.args.image.now.placed c.requires.0
    (record { small = small; near = omega (arith, small); few = omega (arith, c.note-found.ensures.counted, noted_few c.is_live.result 0) })
    m.ensures.deep m.ensures.tabled

pub returns : goal.returns
returns c =
    let q = c.close-first in
    let f = c.start in
    let r = c.run_over-ran in
    let m = c.of-masks in
    let a = c.args in
    let w = a.image.now.sections.width in
    let d = m.result.depth in
    let last = a.image.now.sections.states - 1 in
    let ws = a.image.now.words.now in
    let text = a.text.now in
    let table = m.result.table in
    let fits = words_fit ws a.image.now.fit in
    let M = rule_masks ws w table in
    let live = take w q.result.words in
    let P = a.image.now.placed in
    let T = tabled_of table P m.ensures.tabled in
    let deep = m.ensures.deep ∙ own_depth P in
    let eight : length f.result.words ≡ 8 = ap length f.ensures in
    let first : live ≡ close_words M d M.start_mask =
    close_wide ws fits (own_placed P) table T (own_width P) deep f.result.words q.result.words (omega (arith, eight)) q.ensures
    ∙ ap (λ (x : List ℕ). close_words M d (take w x)) f.ensures in
    let same : ends_with M d last text ≡ ends_with (masks_of ws) a.image.now.sections.depth last text =
    work_ends ws fits (own_placed P) table T (own_width P) deep (own_states P) text (all_bytes text (λ i. omega (arith, c.type_inv.text i)))
    ∙ ap₂ (λ (i k : ℕ). ends_with (masks_of ws) i (k - 1) text) (sym (own_depth P)) (sym (own_states P)) in
    subst (λ (ends : List ℕ). Noted ends a.ends.now r.result.total r.new.places) same
    (begun M w d last text live a.ends.now first c.is_live.result (c.is_live.ensures ∙ take_bit w q.result.words last (omega (arith, (within P).room, own_states P, P.some)))
    c.note-found.ensures.counted c.note-found.ensures.written r.ensures)
