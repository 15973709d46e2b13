-- THE CALLS THAT A TEXT WAS WRITTEN FOR: their ends joined are its lines. Where a refusal broke it off, one of the calls was refused.
use Rattle.std.proofs.Common.{◌≡◌, ℕ, ◌+◌, ◌%◌, ◌^◌, ◌<◌, ◌≤◌, List, [], ◌∷◌, ◌++◌, length, replicate, sym, refl, ap, ◌∙◌, subst, ap₂, append_assoc, add-zero, arith, length-append}
use lib.ListN.{length-replicate}
use Rattle.model.specs.Lists.{All, each}
use Rattle.model.specs.Watch.{Call, Calls, ends_of, Fair, found_by, StepSays, text_of, Watched}
use Rattle.program_lines.specs.Lines.{end_lines, total_text}
use Rattle.program_lines.proofs.Laws.Puts.{lines_app}
use Rattle.follow_report.specs.Follow.{ended, Kept, Next, on, Told, went_on, Writes}
use Rattle.follow_report.proofs.Laws.Few.{step_few}

abbrev joined : List (List ℕ) → List ℕ
joined stretches = each (λ s. s) stretches

-- the calls of steps, one after another, each with room for its ends
pub record Trace (words : List ℕ) (kept : Kept) (cs : List Call) : Type 0 where
  pub calls : Calls words kept.mask kept.place cs
  pub fair : All Fair cs

pub data Traced (words : List ℕ) (kept : Kept) (stretches : List (List ℕ)) (text : List ℕ) : Type 0 where
  whole : (cs : List Call) → Trace words kept cs → text_of cs ≡ joined stretches → text ≡ end_lines (ends_of cs) ++ total_text (kept.total + length (ends_of cs))
      → Traced words kept stretches text
  broken : (cs : List Call) → Trace words kept cs → length (text_of cs) ≤ length (joined stretches) → (All (λ c. c.gave.number ≡ 0) cs → ⊥)
      → Traced words kept stretches text

-- lines before lines and a total
pub lines_then : (ps qs : List ℕ) (m n : ℕ) {first rest : List ℕ} → first ≡ end_lines ps → rest ≡ end_lines qs ++ total_text m → m ≡ n
    → first ++ rest ≡ end_lines (ps ++ qs) ++ total_text n
lines_then ps qs m n e u c =
    ap₂ (λ (x y : List ℕ). x ++ y) e u ∙ sym (append_assoc (end_lines ps) (end_lines qs) (total_text m)) ∙ ap₂ (λ (x y : List ℕ). x ++ y) (sym (lines_app ps qs)) (ap total_text c)

-- ---- one call
abbrev call : List ℕ → Watched → Call
call s w = record { stretch = s; lent = replicate 4096 0; gave = w }

abbrev after : Kept → Watched → Kept
after kept w = record { mask = w.lent.mask; place = w.lent.place; total = (kept.total + w.given) % 2 ^ 64 }

module _ (words : List ℕ) (kept : Kept) (s : List ℕ) (w : Watched) (S : StepSays words kept.mask kept.place s (replicate 4096 0) w) (l : length s ≤ 4096) where
  first_of : {cs : List Call} → Trace words (after kept w) cs → Trace words kept (call s w ∷ cs)
  first_of T = record {
    calls = (S, T.calls);
    fair = ((omega arith, omega (arith, (step_few S l).0, length-replicate {A = ℕ} 4096 0)), T.fair);
  }

  -- it is refused
  call_broken : {stretches : List (List ℕ)} {text : List ℕ} → 0 < w.number → Traced words kept (s ∷ stretches) text
  call_broken {stretches} n =
      broken (call s w ∷ []) (first_of (record { calls = tt; fair = tt })) (omega (arith, length-append s [], length-append s (joined stretches))) (λ z. omega (arith, n, z.0))

  -- it is done, and others follow; the total is below 2 ^ 64 for as many bytes as there are
  module _ (stretches : List (List ℕ)) (short : kept.total + length (joined (s ∷ stretches)) < 2 ^ 64) where
    long : length (joined (s ∷ stretches)) ≡ length s + length (joined stretches)
    long = length-append s (joined stretches)

    fits : (after kept w).total ≡ kept.total + w.given
    fits = omega (arith, short, long, (step_few S l).0)

    rest_short : (after kept w).total + length (joined stretches) < 2 ^ 64
    rest_short = omega (arith, short, long, fits, (step_few S l).0)

    call_first : {first rest : List ℕ} → first ≡ end_lines (found_by w) → Traced words (after kept w) stretches rest → Traced words kept (s ∷ stretches) (first ++ rest)
    call_first e (broken cs T k f) =
        broken (call s w ∷ cs) (first_of T) (omega (arith, k, long, length-append s (text_of cs))) (λ z. f z.1)
    call_first e (whole cs T j u) =
        whole (call s w ∷ cs) (first_of T) (ap (λ (x : List ℕ). s ++ x) j)
        (lines_then (found_by w) (ends_of cs) ((after kept w).total + length (ends_of cs)) (kept.total + length (found_by w ++ ends_of cs)) e u
        (omega (arith, fits, (step_few S l).1, length-append (found_by w) (ends_of cs))))

-- ---- ALL THE CALLS
pub traced : {words : List ℕ} (stretches : List (List ℕ)) (kept : Kept) {text : List ℕ} → Writes words stretches (on kept) text → All (λ s. length s ≤ 4096) stretches
    → kept.total + length (joined stretches) < 2 ^ 64 → Traced words kept stretches text
traced [] kept ended F b = whole [] (record { calls = tt; fair = tt }) refl (ap total_text (sym (add-zero kept.total)))
traced {words} (s ∷ stretches) kept (went_on {next = next} {first} {rest} H W) F b =
    go H.told (λ k e. traced stretches k (subst (λ (n : Next). Writes words stretches n rest) e W) F.1)
  where
    w : Watched
    w = H.answer

    go : Told w (kept.total + w.given) next first
        → ((k : Kept) → next ≡ on k → k.total + length (joined stretches) < 2 ^ 64 → Traced words k stretches rest)
        → Traced words kept (s ∷ stretches) (first ++ rest)
    go (Told.refused z n e) more = call_broken words kept s w H.says F.0 z
    go (Told.found z n e) more =
        call_first words kept s w H.says F.0 stretches b e (more (after kept w) n (rest_short words kept s w H.says F.0 stretches b))
