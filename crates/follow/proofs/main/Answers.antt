-- A text at the opening has at most 18 bytes, and an image lies in the words lent.
use native.Mathlib.Omega.{arith}
use lib.ListN.{take}
use Rattle.program_lines.proofs.Laws.Room.{first}
use Rattle.follow_report.proofs.Laws.Onward.{opened_words}
use Rattle.follow_report.proofs.Laws.Short.{opens_short}
use Rattle.follow.proofs.main.Goals as goal

pub slice_bounds-text-end : goal.slice_bounds-text-end
slice_bounds-text-end c =
    let o = c.open-words in
    (first {n = o.result.said.length} {after = o.new.text} (omega (arith, o.ensures.long, opens_short o.ensures.says)) o.auto.text).fits

pub slice_bounds-write_all-end : goal.slice_bounds-write_all-end
slice_bounds-write_all-end c =
    let o = c.open-words in
    (first {n = o.result.said.length} {after = o.new.text} (omega (arith, o.ensures.long, opens_short o.ensures.says)) o.auto.text).counted

pub slice_bounds-image-end : goal.slice_bounds-image-end
slice_bounds-image-end c =
    let o = c.open-words in
    (first {after = o.new.image} (opened_words (take o.result.words o.new.image) o.result.said c.in-Some.is o.ensures.says) o.auto.image).fits

pub slice_bounds-follow-end : goal.slice_bounds-follow-end
slice_bounds-follow-end c =
    let o = c.open-words in
    (first {after = o.new.image} (opened_words (take o.result.words o.new.image) o.result.said c.in-Some.is o.ensures.says) o.auto.image).counted
