-- NO REPORT IS LONGER THAN 22,397 BYTES: 16,384 of the writing, at most 5 digits for the total, and a line of at most 6 for each of 1,000 ends.
use mathlib.Core.Path.{◌≡◌, ap, ◌∙◌}
use mathlib.Core.List.{List, [], ◌∷◌, ◌++◌}
use Prim.Native.Nat.{ℕ, ◌≤◌, ◌<◌}
use native.Mathlib.Omega.{arith}
use lib.ListN.{length, length-append, length-replicate, length-take, replicate}
use Rattle.model.specs.Answers.{Counted, MatchSays, result_of}
use Rattle.model.specs.Lists.{All}
use Rattle.model.proofs.Laws.Lists.{all_of}
use Rattle.watcher.proofs.Laws.Ends.{end_within, ends_few}
use Rattle.program_lines.specs.Lines.{end_lines, line, refused_text, total_text}
use Rattle.program_lines.proofs.Laws.Numbers.{ends_short, number_short, refused_short}
use Rattle.program_lines.proofs.Laws.Room.{all_done, all_take, all_zeros, build_fits, room_kept}
use Rattle.desk_report.specs.Desk.{built, DeskSays, found, found_text, Matches, ReadsBack, written}
use Rattle.desk_report.proofs.Laws.Stages.{read_back_fits}

refused_line : (n p : ℕ) → n < 10 → p < 10000 → length (refused_text n p) ≤ 22397
refused_line n p l k = omega (arith, refused_short 3 n p (omega arith) k)

-- what match gives: a number of one digit, no place, a total of at most five, and in the room at most 1,000 places of at most five
abbrev Small : List ℕ → Type 0
Small = All (λ (p : ℕ). p < 100000)

record FewDigits (a : Counted) : Type 0 where
  pub number : a.number < 10
  pub place : a.place < 10000
  pub total : a.given < 100000
  pub few : length a.lent ≡ 1000
  pub places : Small a.lent

few-digits : {words journal : List ℕ} {a : Counted} → MatchSays words journal (replicate 1000 0) a → FewDigits a
few-digits M = go M
  where
    zeros : Small (replicate 1000 0)
    zeros = all_zeros (λ (p : ℕ). p < 100000) (omega arith) 1000

    go : {words journal : List ℕ} {a : Counted} → MatchSays words journal (replicate 1000 0) a → FewDigits a
    go (MatchSays.not_an_image n e) = rw e (record { number = omega arith; place = omega arith; total = omega arith; few = length-replicate {A = ℕ} 1000 0; places = zeros })
    go (MatchSays.text_too_long t i l e) = rw e (record { number = omega arith; place = omega arith; total = omega arith; few = length-replicate {A = ℕ} 1000 0; places = zeros })
    go {journal = journal} (MatchSays.matched t ends i l E e) =
        let small : Small ends =
        all_of (λ (p : ℕ). p < 100000) ends (λ p h. omega (arith, end_within t journal ends E p h)) in
        rw e (record {
          number = omega arith;
          place = omega arith;
          total = omega (arith, ends_few t journal ends E);
          few = room_kept ends (replicate 1000 0) ∙ length-replicate {A = ℕ} 1000 0;
          places = all_done (λ (p : ℕ). p < 100000) ends (replicate 1000 0) small zeros;
        })

found_short : (writing : List ℕ) (total : ℕ) (ends : List ℕ) → length writing ≤ 16384 → total < 100000 → length ends ≤ 1000 → Small ends
    → length (found_text writing total ends) ≤ 22397
found_short writing total ends w t e S =
    omega (arith, length-append (line writing) (total_text total ++ end_lines ends), length-append writing (10 ∷ []), length-append (total_text total) (end_lines ends), number_short 4 total t, ends_short 4 ends S)

matches_short : {words journal writing text : List ℕ} → length writing ≤ 16384 → Matches words journal writing text → length text ≤ 22397
matches_short w (Matches.refused a M l e) = omega (arith, ap length e, refused_line a.number a.place (few-digits M).number (few-digits M).place)
matches_short {writing = writing} w (found a M z e) =
    let F = few-digits M in
    let few : length (result_of a) ≤ 1000 = omega (arith, length-take a.given a.lent, F.few) in
    omega (arith, ap length e, found_short writing a.given (result_of a) w F.total few (all_take (λ (p : ℕ). p < 100000) a.given a.lent F.places))

reads_back_short : {words journal text : List ℕ} → ReadsBack words journal text → length text ≤ 22397
reads_back_short (ReadsBack.refused a R l e) = omega (arith, ap length e, refused_line a.number a.place (read_back_fits R).number (read_back_fits R).place)
reads_back_short (written a R z M) = matches_short (omega (arith, length-take a.given a.lent, (read_back_fits R).count, length-replicate {A = ℕ} 16384 0)) M

pub desk_short : {rule journal text : List ℕ} → DeskSays rule journal text → length text ≤ 22397
desk_short (DeskSays.refused a B l e) = omega (arith, ap length e, refused_line a.number a.place (build_fits B).number (build_fits B).place)
desk_short (built a B z R) = reads_back_short R
