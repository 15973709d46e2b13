-- FROM AN ANSWER TO THE TEXT: a refusal gives its line and stops the program; done gives a line for each end, and the program goes on with what is kept.
use Rattle.std.specs.Prelude.{Err, Ok, Result}
use Rattle.std.proofs.Common.{◌≡◌, ℕ, ◌+◌, ◌%◌, ◌^◌, ◌<◌, List, [], ◌∷◌, ◌++◌, length, take, replicate, sym, refl, ap, ◌∙◌, subst, arith, take_at}
use Rattle.model.specs.Answers.{BuildSays}
use Rattle.model.specs.Watch.{BeginSays, StepSays, watch, Watch}
use Rattle.answers.specs.Answers.{answered, number_of, place_of}
use Rattle.answers.specs.declared.Refusal.{Refusal}
use Rattle.answers.proofs.Apart.{number_known}
use Rattle.image_sections.specs.Sections.{mask_words}
use Rattle.program_lines.specs.Lines.{end_lines, refused_text, Reports}
use Rattle.program_lines.proofs.Laws.Puts.{reports}
use Rattle.program_lines.proofs.Laws.Room.{build_fits, First, first}
use Rattle.follow_report.specs.Follow.{Begins, built, found, Hears, on, Opens, stopped, Told}
use Rattle.follow_report.specs.Work.{Goes, kept_in, next_in, next_with, Stops}
use Rattle.follow_report.specs.declared.Said.{Said}
use Rattle.follow_report.specs.declared.Watching.{Watching}

-- ---- any answer of the watch in writing
module _ (words : List ℕ) {before after : List ℕ} {r : Said} where
  off : {x : Refusal} → Stops x before r after → next_in words r ≡ stopped
  off S = ap (next_with words) S.off

  stops : (x : Refusal) {total : ℕ} {lent : Watch} → Stops x before r after → Told (answered (Err x) lent) total (next_in words r) (refused_text (number_of x) (place_of x))
  stops x S = Told.refused (number_known x).0 (off S) refl

  goes : (mask rest : List ℕ) (place : ℕ) (ends : List ℕ) {n t total : ℕ} → Goes ends n (record { mask = mask ++ rest; place = place; total = t }) before r after
      → length mask ≡ mask_words words → t ≡ total % 2 ^ 64
      → Told (answered (Ok n) (watch mask place ends)) total (next_in words r) (end_lines (take n ends))
  goes mask rest place ends {n} {t} {total} G l e = found refl (goes_on ∙ λ i. on (record { mask = take_at mask rest (mask_words words) l i; place = place; total = e i })) refl
    where
      goes_on : next_in words r ≡ on (kept_in words (record { mask = mask ++ rest; place = place; total = t }))
      goes_on = ap (next_with words) G.on

-- ---- the words of a mask are lent: the first W of eight
module _ (words : List ℕ) (eight : List ℕ) {width : ℕ} (e : width ≡ mask_words words) (n : length eight ≡ 8) where
  pub wide : First width eight
  wide = first (omega (arith, e)) n

  as_wide : (mask : List ℕ) → length mask ≡ length (take width eight) → length mask ≡ mask_words words
  as_wide mask l = l ∙ sym wide.counted ∙ e

-- ---- BEGIN
module _ (words : List ℕ) {width : ℕ} (e : width ≡ mask_words words) (b : Result ℕ Refusal) (mask : List ℕ) (place : ℕ) (ends : List ℕ)
    (B : BeginSays words (take width (replicate 8 0)) 0 (0 ∷ []) (answered b (watch mask place ends))) where
  said : {q : Result ℕ Refusal} → b ≡ q → BeginSays words (take (mask_words words) (replicate 8 0)) 0 (0 ∷ []) (answered q (watch mask place ends))
  said {q} d =
      subst (λ (k : ℕ). BeginSays words (take k (replicate 8 0)) 0 (0 ∷ []) (answered q (watch mask place ends))) e
      (subst (λ (q : Result ℕ Refusal). BeginSays words (take width (replicate 8 0)) 0 (0 ∷ []) (answered q (watch mask place ends))) d B)

  pub begin_refused : {before after : List ℕ} {r : Said} {x : Refusal} → b ≡ Err x → Stops x before r after → Reports (Begins words (next_in words r)) before r.length after
  begin_refused {x = x} d S = reports S.put (record { answer = answered (Err x) (watch mask place ends); says = said d; told = stops words x S })

  pub begin_goes : {before after : List ℕ} {r : Said} {n : ℕ} (rest : List ℕ) → b ≡ Ok n → Goes ends n (record { mask = mask ++ rest; place = place; total = n }) before r after → n < 2 ^ 64
      → length mask ≡ length {A = ℕ} (take width (replicate 8 0)) → Reports (Begins words (next_in words r)) before r.length after
  begin_goes {n = n} rest d G f l = reports G.put (record {
    answer = answered (Ok n) (watch mask place ends);
    says = said d;
    told = goes words mask rest place ends G (as_wide words (replicate 8 0) e refl mask l) (omega (arith, f));
  })

-- ---- STEP
module _ (words : List ℕ) {width : ℕ} (e : width ≡ mask_words words) (w : Watching) (stretch : List ℕ) (s : Result ℕ Refusal) (mask : List ℕ) (place : ℕ) (ends : List ℕ)
    (S : StepSays words (take width w.mask) w.place stretch (replicate 4096 0) (answered s (watch mask place ends))) where
  says : {q : Result ℕ Refusal} → s ≡ q → StepSays words (take (mask_words words) w.mask) w.place stretch (replicate 4096 0) (answered q (watch mask place ends))
  says {q} d =
      subst (λ (k : ℕ). StepSays words (take k w.mask) w.place stretch (replicate 4096 0) (answered q (watch mask place ends))) e
      (subst (λ (q : Result ℕ Refusal). StepSays words (take width w.mask) w.place stretch (replicate 4096 0) (answered q (watch mask place ends))) d S)

  pub step_refused : {before after : List ℕ} {r : Said} {x : Refusal} → s ≡ Err x → Stops x before r after
      → Reports (Hears words (kept_in words w) stretch (next_in words r)) before r.length after
  step_refused {x = x} d T = reports T.put (record { answer = answered (Err x) (watch mask place ends); says = says d; told = stops words x T })

  pub step_goes : {before after : List ℕ} {r : Said} {n t : ℕ} (rest : List ℕ) → s ≡ Ok n → Goes ends n (record { mask = mask ++ rest; place = place; total = t }) before r after
      → t ≡ (w.total + n) % 2 ^ 64 → length w.mask ≡ 8 → length mask ≡ length (take width w.mask)
      → Reports (Hears words (kept_in words w) stretch (next_in words r)) before r.length after
  step_goes {n = n} {t} rest d G f eight l = reports G.put (record {
    answer = answered (Ok n) (watch mask place ends);
    says = says d;
    told = goes words mask rest place ends G (as_wide words w.mask e eight mask l) f;
  })

-- ---- BUILD
module _ {rule lent : List ℕ} (b : Result ℕ Refusal) (after : List ℕ) (B : BuildSays rule lent (answered b after)) where
  was_built : {q : Result ℕ Refusal} → b ≡ q → BuildSays rule lent (answered q after)
  was_built d = subst (λ (q : Result ℕ Refusal). BuildSays rule lent (answered q after)) d B

  pub build_refused : {words : ℕ} {before later : List ℕ} {r : Said} {x : Refusal} → b ≡ Err x → Stops x before r later
      → Reports (Opens rule lent words after (next_in (take words after) r)) before r.length later
  build_refused {words = words} {x = x} d S =
      reports S.put (Opens.refused (answered (Err x) after) (was_built d) (number_known x).0 refl (off (take words after) S) refl)

  module _ {n : ℕ} (d : b ≡ Ok n) where
    pub image_first : length after ≡ length lent → First n after
    image_first e = first (build_fits (was_built d)).count e

    pub image_goes_on : (r : Said) {before later : List ℕ} → Reports (Begins (take n after) (next_in (take n after) r)) before r.length later
        → Reports (Opens rule lent n after (next_in (take n after) r)) before r.length later
    image_goes_on r P = record { text = P.text; says = built (was_built d) P.says; long = P.long; lent = P.lent }
