-- TOKENS ONE AFTER ANOTHER: a range's text is that of its first tokens and then that of the rest, wherever it is cut; each token takes at most
-- 4096 bytes, which bounds the places.
use mathlib.Core.Path.{◌≡◌, sym, ap, ap₂, ◌∙◌}
use mathlib.Core.List.{List, ◌++◌, append_assoc, append-nil}
use Prim.Native.Nat.{ℕ, zero, suc, ◌+◌, ◌-◌, ◌*◌, ◌/◌, ◌%◌, ◌≤◌}
use native.Mathlib.Nat.{add-zero, zero-add}
use native.Mathlib.Omega.{arith}
use lib.ListN.{get_or, length}
use Rattle.model.specs.Image.{join}
use Rattle.image_classes.specs.Classes.{class_in, class_to, ColumnOf}
use Rattle.tokens.specs.Kinds.{read_kind}
use Rattle.tokens.specs.declared.token.Token.{Token}
use Rattle.writing_letters.proofs.Laws.Texts.{Writes, writes_as, writes_then}
use Rattle.writing.specs.Work.{token_text}
use Rattle.writing.proofs.Laws.Tokens.{token_short}

join_split : (g : ℕ → List ℕ) (n k a : ℕ) → join (n + k) a g ≡ join n a g ++ join k (a + n) g
join_split g zero k a = ap₂ (λ (m b : ℕ). join m b g) (zero-add k) (sym (add-zero a))
join_split g (suc n) k a =
    let e : suc n + k ≡ suc (n + k) = omega arith in
    let d : suc a + n ≡ a + suc n = omega arith in
    ap (λ (m : ℕ). join m a g) e
    ∙ ap (λ (t : List ℕ). g a ++ t) (join_split g n k (suc a) ∙ ap (λ (b : ℕ). join n (suc a) g ++ join k b g) d)
    ∙ sym (append_assoc (g a) (join n (suc a) g) (join k (a + suc n) g))

-- ---- the texts g of the numbers from `from` to i less 1, written from the place `at` on
pub record Wrote (g : ℕ → List ℕ) (before : List ℕ) (at from i : ℕ) (after : List ℕ) (place : ℕ) : Type 0 where
  pub since : from ≤ i
  pub text : Writes before at (join (i - from) from g) after place
  pub bound : place ≤ 4096 * i

module _ (g : ℕ → List ℕ) (before : List ℕ) (at from : ℕ) where
  wrote_one : {after : List ℕ} {q : ℕ} → at ≤ 4096 * from → length (g from) ≤ 4096 → Writes before at (g from) after q
      → Wrote g before at from (from + 1) after q
  wrote_one h l w =
      let e : 1 ≡ from + 1 - from = omega arith in record {
        since = omega arith;
        text = writes_as before at (sym (append-nil (g from)) ∙ ap (λ (n : ℕ). join n from g) e) w;
        bound = omega (arith, w.0);
      }

  pub wrote_then : {now after : List ℕ} {i p j q : ℕ} → Wrote g before at from i now p → Wrote g now p i j after q → Wrote g before at from j after q
  wrote_then {i = i} {j = j} f h =
      let e : (i - from) + (j - i) ≡ j - from = omega (arith, f.since, h.since) in
      let d : i ≡ from + (i - from) = omega (arith, f.since) in record {
        since = omega (arith, f.since, h.since);
        text = writes_as before at
            (ap (λ (b : ℕ). join (i - from) from g ++ join (j - i) b g) d
            ∙ sym (join_split g (i - from) (j - i) from)
            ∙ ap (λ (n : ℕ). join n from g) e)
            (writes_then before at (join (i - from) from g) (join (j - i) i g) f.text h.text);
        bound = h.bound;
      }

-- ---- THE TOKENS OF A TAPE
abbrev pub tokens_of : List ℕ → ℕ → List ℕ → ℕ → List ℕ
tokens_of ws W kinds i = token_text (class_to ws W (suc i)) (read_kind (get_or kinds i 0))

-- one token more, by the class that the column at hand has for its state
pub wrote_token : (ws : List ℕ) (W : ℕ) (kinds before : List ℕ) (at from : ℕ) {i : ℕ} {now : List ℕ} {p : ℕ}
    → Wrote (tokens_of ws W kinds) before at from i now p → (table : List ℕ) → ColumnOf ws W ((i + 1) / 64) table → (y : Token) → y ≡ read_kind (get_or kinds i 0)
    → {after : List ℕ} {q : ℕ} → Writes now p (token_text (class_in table ((i + 1) % 64)) y) after q → Wrote (tokens_of ws W kinds) before at from (i + 1) after q
wrote_token ws W kinds before at from {i} {now} {p} w table C y e t =
    let g = tokens_of ws W kinds in
    let s : 64 * ((i + 1) / 64) + (i + 1) % 64 ≡ suc i = omega arith in
    let h = ap₂ token_text (C ((i + 1) % 64) (omega arith) ∙ ap (class_to ws W) s) e in
    wrote_then g before at from w (wrote_one g now p i w.bound (token_short (class_to ws W (suc i)) (read_kind (get_or kinds i 0))) (writes_as now p h t))
