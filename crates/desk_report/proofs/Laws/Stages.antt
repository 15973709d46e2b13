-- FROM AN OPERATION'S ANSWER TO THE TEXT: the first refusal gives its line; done gives what was put into the room, which it did not pass, to the next stage.
use mathlib.Core.Path.{◌≡◌, refl, sym, ◌∙◌}
use mathlib.Core.List.{List}
use Prim.Native.Nat.{ℕ, ◌≤◌}
use native.Mathlib.Omega.{arith}
use lib.ListN.{length, length-replicate, replicate, take}
use Rattle.std.specs.Prelude.{Err, Ok, Result}
use Rattle.model.specs.Answers.{BuildSays, Counted, MatchSays, ReadBackSays}
use Rattle.model.specs.Writing.{writing}
use Rattle.answers.specs.Answers.{answered, number_of, place_of}
use Rattle.answers.specs.declared.Refusal.{Refusal}
use Rattle.answers.proofs.Apart.{number_known}
use Rattle.program_lines.specs.Lines.{refused_text, Reports}
use Rattle.program_lines.specs.Work.{PutAt}
use Rattle.program_lines.proofs.Laws.Puts.{reports}
use Rattle.program_lines.proofs.Laws.Room.{all_fits, build_fits, First, first, Fits, none_fits}
use Rattle.desk_report.specs.Desk.{built, DeskSays, found, found_text, Matches, ReadsBack, TriedSays, written}

pub read_back_fits : {words before : List ℕ} {a : Counted} → ReadBackSays words before a → Fits before a
read_back_fits {before = before} (ReadBackSays.not_an_image n e) = rw e (none_fits before 6 (omega arith))
read_back_fits {before = before} (ReadBackSays.no_room t i l e) = rw e (none_fits before 8 (omega arith))
read_back_fits {before = before} (ReadBackSays.written t i l e) = rw e (all_fits before (writing t) l)

-- ---- DONE: the first n of what was lent go on to the next stage
module _ {rule words : List ℕ} {n : ℕ} (B : BuildSays rule (replicate 4834 0) (answered (Ok n) words)) where
  pub image_first : length words ≡ 4834 → First n words
  image_first e = first (build_fits B).count (e ∙ sym (length-replicate {A = ℕ} 4834 0))

module _ {words bytes : List ℕ} {n : ℕ} (R : ReadBackSays words (replicate 16384 0) (answered (Ok n) bytes)) where
  pub writing_few : n ≤ 16384
  writing_few = omega (arith, (read_back_fits R).count, length-replicate {A = ℕ} 16384 0)

  pub writing_first : length bytes ≡ 16384 → First n bytes
  writing_first e = first writing_few e

-- ---- A REFUSAL OF EACH STAGE, handed on with nothing written; and none, and then the three parts
passed_on : (rule journal before : List ℕ) (x : Refusal) {y : Refusal} {r : Result ℕ Refusal} → DeskSays rule journal (refused_text (number_of x) (place_of x))
    → r ≡ Err y → y ≡ x → TriedSays rule journal before r before
passed_on rule journal before x D e same = rw (e, same) (D, refl)

module _ {rule : List ℕ} (journal before : List ℕ) where
  pub build_refused : {after : List ℕ} {x y : Refusal} {r : Result ℕ Refusal} → BuildSays rule (replicate 4834 0) (answered (Err x) after) → r ≡ Err y → y ≡ x
      → TriedSays rule journal before r before
  build_refused {after} {x} B = passed_on rule journal before x (DeskSays.refused (answered (Err x) after) B (number_known x).0 refl)

  module _ {n : ℕ} {words : List ℕ} (B : BuildSays rule (replicate 4834 0) (answered (Ok n) words)) where
    goes_on : {text : List ℕ} → ReadsBack (take n words) journal text → DeskSays rule journal text
    goes_on = built (answered (Ok n) words) B refl

    pub read_back_refused : {after : List ℕ} {x y : Refusal} {r : Result ℕ Refusal} → ReadBackSays (take n words) (replicate 16384 0) (answered (Err x) after)
        → r ≡ Err y → y ≡ x → TriedSays rule journal before r before
    read_back_refused {after} {x} R = passed_on rule journal before x (goes_on (ReadsBack.refused (answered (Err x) after) R (number_known x).0 refl))

    module _ {m : ℕ} {bytes : List ℕ} (R : ReadBackSays (take n words) (replicate 16384 0) (answered (Ok m) bytes)) where
      matches : {text : List ℕ} → Matches (take n words) journal (take m bytes) text → DeskSays rule journal text
      matches M = goes_on (written (answered (Ok m) bytes) R refl M)

      pub match_refused : {after : List ℕ} {x y : Refusal} {r : Result ℕ Refusal} → MatchSays (take n words) journal (replicate 1000 0) (answered (Err x) after)
          → r ≡ Err y → y ≡ x → TriedSays rule journal before r before
      match_refused {after} {x} M = passed_on rule journal before x (matches (Matches.refused (answered (Err x) after) M (number_known x).0 refl))

      pub all_found : {total r : ℕ} {ends text : List ℕ} → MatchSays (take n words) journal (replicate 1000 0) (answered (Ok total) ends)
          → PutAt (found_text (take m bytes) total (take total ends)) before 0 r text → TriedSays rule journal before (Ok r) text
      all_found {total} {ends = ends} M P = reports P (matches (found (answered (Ok total) ends) M refl refl))

-- a refusal that was handed on is the text, by its line
pub put_refused : {rule journal before mid after : List ℕ} (x : Refusal) {r : ℕ} → TriedSays rule journal before (Err x) mid
    → PutAt (refused_text (number_of x) (place_of x)) mid 0 r after → Reports (DeskSays rule journal) before r after
put_refused x t P = reports (rw t.1 at P) t.0
