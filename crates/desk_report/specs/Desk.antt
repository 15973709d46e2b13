-- THE DESK PROGRAM (document 01): what it writes for the bytes of the files `rule` and `journal`.
use Rattle.std.specs.Prelude.{◌≡◌, Err, List, ◌++◌, ℕ, ◌<◌, Ok, replicate, Result}
use Rattle.model.specs.Answers.{BuildSays, Counted, MatchSays, ReadBackSays, result_of}
use Rattle.answers.specs.Answers.{number_of, place_of}
use Rattle.answers.specs.declared.Refusal.{Refusal}
use Rattle.program_lines.specs.Lines.{end_lines, line, refused_text, Reports, total_text}

-- "Rule `a`, journal `aba` gives the four lines `a`, `total 2`, `1`, `3`."
abbrev pub found_text : (writing : List ℕ) (total : ℕ) (ends : List ℕ) → List ℕ
found_text writing total ends = line writing ++ (total_text total ++ end_lines ends)

-- "matches with room for 1,000 ends, and writes"
pub data Matches (words journal writing text : List ℕ) : Type 0 where
  refused : (a : Counted) → MatchSays words journal (replicate 1000 0) a → 0 < a.number → text ≡ refused_text a.number a.place → Matches words journal writing text
  found : (a : Counted) → MatchSays words journal (replicate 1000 0) a → a.number ≡ 0 → text ≡ found_text writing a.given (result_of a)
      → Matches words journal writing text

-- "reads back into 16,384 bytes"
pub data ReadsBack (words journal text : List ℕ) : Type 0 where
  refused : (a : Counted) → ReadBackSays words (replicate 16384 0) a → 0 < a.number → text ≡ refused_text a.number a.place → ReadsBack words journal text
  written : (a : Counted) → ReadBackSays words (replicate 16384 0) a → a.number ≡ 0 → Matches words journal (result_of a) text → ReadsBack words journal text

-- "It .. builds with room for the longest image", which has 4,834 words with the back edges of Wish 12
pub data DeskSays (rule journal text : List ℕ) : Type 0 where
  refused : (a : Counted) → BuildSays rule (replicate 4834 0) a → 0 < a.number → text ≡ refused_text a.number a.place → DeskSays rule journal text
  built : (a : Counted) → BuildSays rule (replicate 4834 0) a → a.number ≡ 0 → ReadsBack (result_of a) journal text → DeskSays rule journal text

-- the text written, once nothing refuses; or a refusal whose line is the text, and of it nothing is written yet
abbrev pub TriedSays : (rule journal before : List ℕ) → Result ℕ Refusal → (after : List ℕ) → Type 0
TriedSays rule journal before (Ok n) after = Reports (DeskSays rule journal) before n after
TriedSays rule journal before (Err x) after = DeskSays rule journal (refused_text (number_of x) (place_of x)) × (after ≡ before)
