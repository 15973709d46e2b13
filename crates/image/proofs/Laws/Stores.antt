-- WORDS WRITTEN ONE AFTER ANOTHER are written as one row: what is written where the words before it end is appended to them.
use mathlib.Core.Path.{◌≡◌, sym, ap, ◌∙◌}
use mathlib.Core.List.{List, [], ◌∷◌, ◌++◌, append_assoc}
use Prim.Native.Nat.{ℕ, ◌+◌, ◌≤◌, ◌<◌}
use native.Mathlib.Nat.{le_of_lt}
use native.Mathlib.Numerals.{add-one}
use lib.ListN.{drop, length, get_or, set, take}
use borrow.Rule.Slice.PartMut.{put_mid}
use lib.Seq.{drop-drop, length-take-le, sets, sets-eq, take-suc}
use Rattle.model.proofs.Laws.Stores.{sets_append}

-- one run and the next, where the place k at which the words us end is known by an equation
pub sets_on : {A : Type 0} (l : List A) (i : ℕ) (us vs : List A) (k : ℕ) → k ≡ i + length us → sets (sets l i us) k vs ≡ sets l i (us ++ vs)
sets_on l i us vs k e = ap (λ (p : ℕ). sets (sets l i us) p vs) e ∙ sym (sets_append l i us vs)

-- a run that fits stands between the words before it and those after it
pub sets_between : (l : List ℕ) (i : ℕ) (vs : List ℕ) → i + length vs ≤ length l → sets l i vs ≡ take i l ++ (vs ++ drop (i + length vs) l)
sets_between l i vs fits = sets-eq vs l i fits ∙ append_assoc (take i l) vs (drop (i + length vs) l)

-- a part of the words, after the words vs were written to it
pub part_written : (l : List ℕ) (i k : ℕ) (vs ws : List ℕ) → i + length vs ≤ length l → k ≡ length vs → ws ≡ vs → put_mid i k l ws ≡ sets l i vs
part_written l i k vs ws fits e is =
    ap (put_mid i k l) is
    ∙ ap (λ (rest : List ℕ). take i l ++ (vs ++ rest)) (drop-drop k i l ∙ ap (λ (n : ℕ). drop (i + n) l) e)
    ∙ sym (sets_between l i vs fits)

-- one more word of a row
pub take_more : (l : List ℕ) (i : ℕ) (row : List ℕ) (j : ℕ) → j < length row
    → set (sets l i (take j row)) (i + j) (get_or row j 0) ≡ sets l i (take (j + 1) row)
take_more l i row j h =
    sets_on l i (take j row) (get_or row j 0 ∷ []) (i + j) (ap (λ (n : ℕ). i + n) (sym (length-take-le j row (le_of_lt h))))
    ∙ ap (sets l i) (sym (take-suc row j 0 h) ∙ ap (λ (n : ℕ). take n row) (sym (add-one j)))
