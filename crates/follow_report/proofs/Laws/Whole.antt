-- FROM A WATCH THAT IS BEGUN WITH A TREE'S IMAGE: the calls that were made are a cutting of the journal, and none was refused.
use Rattle.std.proofs.Common.{◌≡◌, ℕ, ◌+◌, ◌%◌, ◌^◌, ◌≤◌, List, [], ◌∷◌, ◌++◌, length, take, replicate, ap, ◌∙◌, subst, arith, length-append, length-take}
use Rattle.model.specs.Answers.{ImageOf}
use Rattle.model.specs.Edges.{states}
use Rattle.model.specs.Ends.{EndsAre}
use Rattle.model.specs.Image.{width}
use Rattle.model.specs.Lists.{All}
use Rattle.model.specs.Tree.{Tree}
use Rattle.model.specs.Watch.{Call, Calls, Cutting, ends_of, Fair, found_by, text_of, Watched}
use Rattle.model.specs.Models.Sections.{width_word}
use Rattle.model.proofs.Watch.Cuttings.{cutting}
use Rattle.image_sections.specs.Sections.{mask_words}
use Rattle.follow_report.specs.Follow.{Arrives, Begins, Followed, Next, Told, Writes}
use Rattle.follow_report.proofs.Laws.Few.{begin_few}
use Rattle.follow_report.proofs.Laws.Trace.{broken, lines_then, traced, Traced, whole}

-- a mask of as many words as the image says
mask_wide : (words : List ℕ) (t : Tree) → ImageOf words t → length {A = ℕ} (take (mask_words words) (replicate 8 0)) ≡ width (states t)
mask_wide words t I =
    let W : width_word words ≡ width (states t) = ap width_word I.laid in
    omega (arith, length-take {A = ℕ} (mask_words words) (replicate 8 0), W, I.few)

module _ (words : List ℕ) (t : Tree) (I : ImageOf words t) {journal : List ℕ} (stretches : List (List ℕ)) (A : Arrives journal stretches) where
  pub begun_writes : {next : Next} {first rest : List ℕ} → Begins words next first → Writes words stretches next rest → Followed t journal (first ++ rest)
  begun_writes {next} {first} {rest} B W = go B.told
    where
      w : Watched
      w = B.answer

      few : w.given ≤ 1
      few = (begin_few B.says).0

      cut : (cs : List Call) → Calls words w.lent.mask w.lent.place cs → All Fair cs → length (text_of cs) ≤ 4294967295 → Cutting t w cs
      cut cs = cutting words t I (take (mask_words words) (replicate 8 0)) 0 (0 ∷ []) w cs (mask_wide words t I) B.says few

      go : Told w w.given next first → Followed t journal (first ++ rest)
      go (Told.refused z n e) = absurd (omega (arith, z, (cut [] tt tt (omega arith)).began))
      go (Told.found z n e) = run (traced stretches _ (subst (λ (x : Next). Writes words stretches x rest) n W) A.short (omega (arith, few, ap length A.joined, A.limit)))
        where
          run : Traced words (record { mask = w.lent.mask; place = w.lent.place; total = w.given % 2 ^ 64 }) stretches rest → Followed t journal (first ++ rest)
          run (broken cs T k f) = absurd (f (cut cs T.calls T.fair (omega (arith, k, ap length A.joined, A.limit))).went_on)
          run (whole cs T j u) =
              let C = cut cs T.calls T.fair (omega (arith, ap length j, ap length A.joined, A.limit)) in
              record {
                ends = found_by w ++ ends_of cs;
                are = subst (λ (x : List ℕ). EndsAre t x (found_by w ++ ends_of cs)) (j ∙ A.joined) C.ends;
                lines =
                    lines_then (found_by w) (ends_of cs) (w.given % 2 ^ 64 + length (ends_of cs)) (length (found_by w ++ ends_of cs)) e u
                    (omega (arith, few, (begin_few B.says).1, length-append (found_by w) (ends_of cs)));
              }
