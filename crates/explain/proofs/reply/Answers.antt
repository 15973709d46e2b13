-- An answer is no longer than the text. What is said of its length cites laws: the text is too long to be looked at byte by byte.
use mathlib.Core.Path.{sym, ◌∙◌}
use Prim.Native.Nat.{ℕ}
use lib.ListN.{length-replicate}
use Rattle.program_lines.proofs.Laws.Room.{first}
use Rattle.explain.proofs.Laws.{room_enough}
use Rattle.explain.proofs.reply.Goals as goal

pub slice_bounds-answer-end : goal.slice_bounds-answer-end
slice_bounds-answer-end g c = sym (length-replicate {A = ℕ} 2162687 0)

pub answer-length-requires : goal.answer-length-requires
answer-length-requires g c = room_enough 2162687

pub slice_bounds-text-end : goal.slice_bounds-text-end
slice_bounds-text-end g c =
    let a = c.answer-length in
    (first {n = a.result} {room = 2162687} {after = a.new.text} a.ensures (a.auto.text ∙ length-replicate {A = ℕ} 2162687 0)).fits

pub slice_bounds-write_all-end : goal.slice_bounds-write_all-end
slice_bounds-write_all-end g c =
    let a = c.answer-length in
    (first {n = a.result} {room = 2162687} {after = a.new.text} a.ensures (a.auto.text ∙ length-replicate {A = ℕ} 2162687 0)).counted
