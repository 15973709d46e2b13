-- ROWS THAT STAND IN THE BUFFER, one after another, in a union's open and close, and once more: where the number of a token is cut off nothing is written any
-- more, so each of them is written as if tokens had been counted on.
use mathlib.Core.Path.{◌≡◌, refl, sym, ap, ap₂, ◌∙◌}
use mathlib.Core.Logic.{◌⊎◌, inl, inr}
use mathlib.Core.List.{List, [], ◌∷◌, ◌++◌}
use Prim.Native.Nat.{ℕ, ◌+◌, ◌-◌, ◌*◌, ◌≤◌, ◌<◌}
use native.Mathlib.Omega.{arith}
use lib.ListN.{drop, length, length-append, length-drop, take}
use lib.Seq.{length-sets, sets, take_all}
use Rattle.model.specs.Models.Tokens.{a_close, an_open, Token}
use Rattle.model.specs.Tree.{Mark}
use Rattle.model.proofs.Laws.Bool.{le_or_lt}
use Rattle.tokens.specs.Rows.{row_words, token_words}
use Rattle.rule.specs.Tokens.{copied, cut, enclosed, opened, Stands}
use Rattle.rule.proofs.Laws.Stores.{sets_past, take_written}
use Rattle.tokens.proofs.Rows.{row_length}
use Rattle.rule.proofs.Laws.RowWords.{opened_row, sets_row_append}

-- ---- numbers of tokens that are the same as far as they are counted
module _ (l : List ℕ) (room : length l ≡ 2555) where
  pub sets_alike : (i j : ℕ) (ws : List ℕ) → cut i ≡ cut j → sets l (5 * i) ws ≡ sets l (5 * j) ws
  sets_alike i j ws e = go (le_or_lt 512 i)
    where
      go : (512 ≤ i) ⊎ (i < 512) → sets l (5 * i) ws ≡ sets l (5 * j) ws
      go (inl h) = sets_past l (5 * i) ws (omega arith) ∙ sym (sets_past l (5 * j) ws (omega arith))
      go (inr h) = let k : i ≡ j = omega arith in ap (λ (x : ℕ). sets l (5 * x) ws) k

  opened_cut : (n k : ℕ) (ws : List ℕ) → opened l n (cut (n + k) - n) ws ≡ opened l n k ws
  opened_cut n k ws = go (le_or_lt (n + k) 512)
    where
      rest : List ℕ
      rest = drop (5 * n) l

      go : (n + k ≤ 512) ⊎ (512 < n + k) → opened l n (cut (n + k) - n) ws ≡ opened l n k ws
      go (inl h) = let e : cut (n + k) - n ≡ k = omega arith in ap (λ (x : ℕ). opened l n x ws) e
      go (inr h) =
          ap (λ (r : List ℕ). sets l (5 * n) (ws ++ r))
          (take_all (5 * (cut (n + k) - n)) rest (omega (arith, length-drop (5 * n) l)) ∙ sym (take_all (5 * k) rest (omega (arith, length-drop (5 * n) l))))

-- ---- rows
pub stands_as : {before after : List ℕ} {n next : ℕ} {row : List Token} {after' : List ℕ} {next' : ℕ} → after' ≡ after → next' ≡ next
    → Stands before after n next row → Stands before after' n next' row
stands_as e d s = record { room = s.room; count = d ∙ s.count; written = e ∙ s.written }

-- the tokens of a union, around those of its alternatives
abbrev pub as_union : List Token → Mark → List Token
as_union row m = an_open ∷ (row ++ (a_close m ∷ []))

module _ {before now : List ℕ} {n next : ℕ} {row : List Token} (s : Stands before now n next row) where
  pub room_after : length now ≡ 2555
  room_after = ap length s.written ∙ length-sets before (5 * n) (row_words row) ∙ s.room

  pub stands_append : {after : List ℕ} {end : ℕ} {more : List Token} → Stands now after next end more → Stands before after n end (row ++ more)
  stands_append {after} {end} {more} t = record {
    room = s.room;
    count = omega (arith, s.count, t.count, length-append row more);
    written =
        t.written
        ∙ sets_alike now room_after next (n + length row) (row_words more) (omega (arith, s.count))
        ∙ ap (λ (l : List ℕ). sets l (5 * (n + length row)) (row_words more)) s.written
        ∙ sym (sets_row_append before n row more);
  }

  pub stands_union : (m : Mark) → Stands before (enclosed now n next m) n (cut (next + 2)) (as_union row m)
  stands_union m = record {
    room = s.room;
    count = omega (arith, s.count, length-append row (a_close m ∷ []));
    written =
        ap (λ (l : List ℕ). sets l (5 * (next + 1)) close) opens
        ∙ sets_alike begun (length-sets before (5 * n) (row_words (an_open ∷ row)) ∙ s.room) (next + 1) (n + length (an_open ∷ row)) close (omega (arith, s.count))
        ∙ sym (sets_row_append before n (an_open ∷ row) (a_close m ∷ []));
  }
    where
      begun : List ℕ
      begun = sets before (5 * n) (row_words (an_open ∷ row))

      close : List ℕ
      close = token_words (a_close m)

      opens : opened now n (next - n) (token_words an_open) ≡ begun
      opens =
          ap (λ (k : ℕ). opened now n (k - n) (token_words an_open)) s.count
          ∙ opened_cut now room_after n (length row) (token_words an_open)
          ∙ ap (λ (l : List ℕ). opened l n (length row) (token_words an_open)) s.written
          ∙ opened_row before n row (token_words an_open)

  pub stands_again : n ≤ 512 → Stands now (copied now n (next - n) (next - n)) next (cut (next + (next - n))) row
  stands_again few = record { room = room_after; count = omega (arith, s.count); written = go (le_or_lt (n + length row) 511) }
    where
      go : (n + length row ≤ 511) ⊎ (511 < n + length row) → copied now n (next - n) (next - n) ≡ sets now (5 * next) (row_words row)
      go (inl h) =
          let i : 5 * (n + (next - n)) ≡ 5 * next = omega (arith, s.count) in
          let k : 5 * (next - n) ≡ length (row_words row) = omega (arith, s.count, row_length row) in
          ap₂ (sets now) i
          (ap₂ (λ (x : ℕ) (l : List ℕ). take x (drop (5 * n) l)) k s.written ∙ take_written before (5 * n) (row_words row) (omega (arith, s.room, row_length row)))
      go (inr h) =
          sets_past now (5 * (n + (next - n))) (take (5 * (next - n)) (drop (5 * n) now)) (omega (arith, s.count, room_after))
          ∙ sym (sets_past now (5 * next) (row_words row) (omega (arith, s.count, room_after)))

-- one token
pub stands_one : (before : List ℕ) (n : ℕ) (y : Token) → length before ≡ 2555 → Stands before (sets before (5 * n) (token_words y)) n (cut (n + 1)) (y ∷ [])
stands_one before n y room = record { room = room; count = refl; written = refl }
