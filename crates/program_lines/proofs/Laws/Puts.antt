-- ONE PIECE AFTER ANOTHER IS THE TWO IN ONE: stores from a place on go on where the last ended.
use mathlib.Core.Path.{◌≡◌, refl, sym, ap, ◌∙◌, subst}
use mathlib.Core.Logic.{◌⊎◌, inl, inr}
use mathlib.Core.List.{List, [], ◌∷◌, ◌++◌, append_assoc, append-nil}
use Prim.Native.Nat.{ℕ, suc, ◌+◌, ◌≤◌, ◌<◌, min}
use native.Mathlib.Omega.{arith}
use lib.ListN.{get_or, length, length-append, set, take}
use lib.Seq.{sets, take_all, take-suc}
use Rattle.model.proofs.Laws.Bool.{le_or_lt}
use Rattle.model.proofs.Laws.Stores.{sets_append, sets_fit}
use Rattle.program_lines.specs.Lines.{decimal, end_lines, line, Reports}
use Rattle.program_lines.specs.Work.{PutAt}

pub put_none : (before : List ℕ) (at : ℕ) {r : ℕ} → r ≡ at → PutAt [] before at r before
put_none before at e = record { place = omega (arith, e); stored = refl }

module _ {xs ys before mid after : List ℕ} {at r q : ℕ} where
  pub put_then : PutAt xs before at r mid → PutAt ys mid r q after → PutAt (xs ++ ys) before at q after
  put_then P Q = record {
    place = omega (arith, P.place, Q.place, length-append xs ys);
    stored = Q.stored ∙ (λ i. sets (P.stored i) (P.place i) ys) ∙ sym (sets_append before at xs ys);
  }

-- ---- the first i bytes are put, and then one more
module _ (bytes before text : List ℕ) (at i : ℕ) (P : PutAt (take i bytes) before at (at + i) text) where
  pub put_byte : i < length bytes → {next : List ℕ} → next ≡ set text (at + i) (get_or bytes i 0) → PutAt (take (i + 1) bytes) before at (at + (i + 1)) next
  put_byte l {next} e =
      let n : i + 1 ≡ suc i = omega arith in
      let one : PutAt (get_or bytes i 0 ∷ []) text (at + i) (at + (i + 1)) next = record { place = omega arith; stored = e } in
      subst (λ (xs : List ℕ). PutAt xs before at (at + (i + 1)) next) (sym (ap (λ (k : ℕ). take k bytes) n ∙ take-suc bytes i 0 l)) (put_then P one)

  pub bytes_put : length bytes ≤ i → PutAt bytes before at (at + length bytes) text
  bytes_put k = record { place = refl; stored = P.stored ∙ ap (sets before at) (take_all i bytes k) }

-- ---- lines of ends
pub lines_app : (ps qs : List ℕ) → end_lines (ps ++ qs) ≡ end_lines ps ++ end_lines qs
lines_app [] qs = refl
lines_app (p ∷ ps) qs = ap (λ (l : List ℕ). line (decimal p) ++ l) (lines_app ps qs) ∙ sym (append_assoc (line (decimal p)) (end_lines ps) (end_lines qs))

lines_one : (p : ℕ) → end_lines (p ∷ []) ≡ line (decimal p)
lines_one p = append-nil (line (decimal p))

module _ (ends before text : List ℕ) (at next i : ℕ) (P : PutAt (end_lines (take i ends)) before at next text) where
  pub put_end : i < length ends → {q : ℕ} {later : List ℕ} → PutAt (line (decimal (get_or ends i 0))) text next q later → PutAt (end_lines (take (i + 1) ends)) before at q later
  put_end l {q} {later} Q =
      let n : i + 1 ≡ suc i = omega arith in
      let more : end_lines (take (i + 1) ends) ≡ end_lines (take i ends) ++ line (decimal (get_or ends i 0)) =
      ap (λ (k : ℕ). end_lines (take k ends)) n ∙ ap end_lines (take-suc ends i 0 l) ∙ lines_app (take i ends) (get_or ends i 0 ∷ [])
      ∙ ap (λ (l : List ℕ). end_lines (take i ends) ++ l) (lines_one (get_or ends i 0)) in
      subst (λ (xs : List ℕ). PutAt xs before at q later) (sym more) (put_then P Q)

-- as many as are counted and were lent
pub all_shown : (ends : List ℕ) (n count i : ℕ) → n ≡ min count (length ends) → length (take n ends) ≤ i → take i (take n ends) ≡ take count ends
all_shown ends n count i e l = take_all i (take n ends) l ∙ go (le_or_lt count (length ends))
  where
    go : (count ≤ length ends) ⊎ (length ends < count) → take n ends ≡ take count ends
    go (inl h) = let same : n ≡ count = omega arith in ap (λ (k : ℕ). take k ends) same
    go (inr h) = take_all n ends (omega arith) ∙ sym (take_all count ends (omega arith))

-- ---- A TEXT THAT WAS PUT FROM PLACE 0 ON is reported
pub reports : {Says : List ℕ → Type 0} {text before after : List ℕ} {r : ℕ} → PutAt text before 0 r after → Says text → Reports Says before r after
reports {text = text} {before = before} P s = record { text = text; says = s; long = omega (arith, P.place); lent = P.stored ∙ sets_fit before text }
