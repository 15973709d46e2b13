-- WITH EIGHT WORDS NOTHING IS LOST, for nothing grows longer.
use mathlib.Core.Path.{◌≡◌, sym, ◌∙◌}
use mathlib.Core.List.{List}
use Prim.Native.Nat.{ℕ, zero, suc, ◌≤◌}
use native.Mathlib.Nat.{le_refl, le_trans}
use lib.Bits.{bit_or}
use lib.ListN.{length, take}
use lib.Seq.{take_all}
use Rattle.model.specs.Models.Run.{close_words, Masks, pass_words, returns_words, return_words}
use Rattle.model.specs.Models.Verdict.{same_words}
use Rattle.model.specs.Models.Words.{or_words}
use Rattle.model.proofs.Laws.Bool.{cond_cases}
use Rattle.model.proofs.Words.Operations.{each_short}
use Rattle.run_word.proofs.Laws.Back.{pass_short}

returns_short : (M : Masks) (k : ℕ) (first live : List ℕ) → length (returns_words M k first live) ≤ length live
returns_short M zero first live = le_refl (length live)
returns_short M (suc k) first live =
    let led = return_words (M.back_mask k 0) (M.back_mask k 1) first in
    le_trans (returns_short M k first (or_words live led)) (each_short bit_or live led)

close_short : (M : Masks) (d : ℕ) (live : List ℕ) → length (close_words M d live) ≤ length live
close_short M d live =
    let first = pass_words M d live in
    let more = returns_words M d first first in
    let once = pass_short M d live in
    cond_cases (λ (r : List ℕ). length r ≤ length live) (same_words more first) (λ t. once)
    (λ t. le_trans (pass_short M d more) (le_trans (returns_short M d first first) once))

pub close_whole : (M : Masks) (d : ℕ) (live r : List ℕ) → length live ≤ 8 → length r ≤ 8 → take 8 r ≡ take 8 (close_words M d live) → r ≡ close_words M d live
close_whole M d live r hl hr e = sym (take_all 8 r hr) ∙ e ∙ take_all 8 (close_words M d live) (le_trans (close_short M d live) hl)
