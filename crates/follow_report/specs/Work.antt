-- WHAT THE PARTS OF A CALL SAY: what is kept as the code holds it, a refusal put in writing, and ends put in writing.
use Rattle.std.specs.Prelude.{None, Option, Some, ◌≡◌, ℕ, List, take}
use Rattle.answers.specs.Answers.{number_of, place_of}
use Rattle.answers.specs.declared.Refusal.{Refusal}
use Rattle.image_sections.specs.Sections.{mask_words}
use Rattle.program_lines.specs.Lines.{end_lines, refused_text}
use Rattle.program_lines.specs.Work.{PutAt}
use Rattle.follow_report.specs.Follow.{Kept, Next, on, stopped}
use Rattle.follow_report.specs.declared.Said.{Said}
use Rattle.follow_report.specs.declared.Watching.{Watching}

-- the first W of eight words are the mask
abbrev pub kept_in : (words : List ℕ) → Watching → Kept
kept_in words w = record { mask = take (mask_words words) w.mask; place = w.place; total = w.total }

abbrev pub next_with : (words : List ℕ) → Option Watching → Next
next_with words (Some w) = on (kept_in words w)
next_with words None = stopped

abbrev pub next_in : (words : List ℕ) → Said → Next
next_in words r = next_with words r.watching

pub record Stops (refusal : Refusal) (before : List ℕ) (r : Said) (after : List ℕ) : Type 0 where
  pub off : r.watching ≡ None
  pub put : PutAt (refused_text (number_of refusal) (place_of refusal)) before 0 r.length after

pub record Goes (ends : List ℕ) (count : ℕ) (watching : Watching) (before : List ℕ) (r : Said) (after : List ℕ) : Type 0 where
  pub on : r.watching ≡ Some watching
  pub put : PutAt (end_lines (take count ends)) before 0 r.length after
