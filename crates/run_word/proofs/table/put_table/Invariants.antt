-- `put_table`: the words put so far are the entries, and each turn puts one more.
use Rattle.std.proofs.Common.{◌≡◌, ℕ, ◌/◌, ◌%◌, ◌<◌, length, get_or}
use Rattle.run_word.specs.One.{entry_at}
use Rattle.run_word.proofs.table.put_table.Given as goal

abbrev pub invariant-loop-i : goal.invariant-loop-i
invariant-loop-i l = (length l.table ≡ 81) × ((x : ℕ) → x < l.i → get_or l.table x 0 ≡ entry_at l.image.words.now l.image.sections.depth (x / 9) (x % 9))
