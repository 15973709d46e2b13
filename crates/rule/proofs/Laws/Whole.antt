-- A RULE IS ITS ALTERNATIVES, READ TO THE LAST BYTE, AS ONE ITEM: the model's reader decides the grammar and stops at the place, so the answer is the table's.
use mathlib.Core.Path.{◌≡◌, refl, sym, ap, ◌∙◌}
use mathlib.Core.Logic.{◌⊎◌, inl, inr}
use mathlib.Core.List.{List}
use mathlib.Core.Option.{none, some}
use Prim.Native.Nat.{ℕ, suc, ◌+◌, ◌≤◌, ◌<◌}
use native.Mathlib.Omega.{arith}
use lib.ListN.{drop_of_length-le, length}
use lib.Seq.{drop-cons}
use Rattle.model.specs.Edges.{states}
use Rattle.model.specs.Grammar.{bracket, IsRule}
use Rattle.model.specs.Models.Reader.{alts, left, read_rule, whole}
use Rattle.model.specs.Tree as tree
use Rattle.model.proofs.Image.Tokens.{length_tokens}
use Rattle.model.proofs.Laws.Bool.{le_false, le_or_lt, le_true}
use Rattle.model.proofs.Reading.Decides.{reads}
use Rattle.model.proofs.Reading.Place.{place_at}
use Rattle.std.proofs.Common.{Err, Ok, Result}
use Rattle.answers.specs.declared.Refusal.{Refusal}
use Rattle.answers.specs.declared.Refusal.TheVariants.{NotARule}
use Rattle.rule_bytes.specs.Places.{Stopped, Took}
use Rattle.rule.specs.Groups.{WholeSays}
use Rattle.rule.specs.Parts.{seq_tokens}
use Rattle.rule.specs.Says.{not_a_rule, read, ReadSays, states_of, too_many_states, tree_of}
use Rattle.rule.specs.Tokens.{no_tokens, Stands}
use Rattle.rule.specs.declared.parts.Part.{Part}
use Rattle.rule.specs.declared.Tree.{Tree}

-- the tokens are given with the states
abbrev pub answered : Result ℕ Refusal → List ℕ → Result Tree Refusal
answered (Err x) row = Err x
answered (Ok m) row = Ok (tree_of m row)

module _ (rule : List ℕ) (short : length rule ≤ 1024) where
  unread : read_rule rule ≡ none → (t : tree.Tree) → IsRule rule t → ⊥
  unread e t d = no_tree (sym e ∙ (reads rule t).0 d)
    where
      no_tree : none ≡ some t → ⊥
      no_tree p = let z : ◌≡◌ {A = ℕ} 0 1 = cc in omega arith

  -- the alternatives cannot be read
  pub stopped_says : {p : ℕ} → Stopped rule (alts rule) p → ReadSays rule (Err (NotARule p))
  stopped_says {p} s = not_a_rule p short (unread (ap whole s.reads)) (place_at rule p s.inside (ap left s.reads)) refl

  module _ {a : tree.Alts} (row : List ℕ) (item : Part) (t : Took rule (alts rule) a item.place) (s : Stands no_tokens row 0 item.next (seq_tokens (bracket a))) where
    abbrev Says : Type 0
    Says = ReadSays rule (answered (states_of item (length rule)) row)

    -- bytes are left
    left_over : item.place < length rule → Says
    left_over h =
        rw (le_true (suc item.place) (length rule) h)
        (not_a_rule item.place short (unread (ap whole t.reads ∙ rw (drop-cons rule item.place 0 h))) (place_at rule item.place t.inside (ap left t.reads)) refl)

    -- all bytes are read
    module _ (h : length rule ≤ item.place) where
      is_rule : IsRule rule (bracket a)
      is_rule = (reads rule (bracket a)).1 (ap whole t.reads ∙ rw (drop_of_length-le rule h))

      all_read : Says
      all_read = go (le_or_lt item.next 511)
        where
          go : (item.next ≤ 511) ⊎ (511 < item.next) → Says
          go (inl few) =
              let size : item.next + 1 ≡ states (bracket a) = omega (arith, length_tokens (bracket a), s.count) in
              rw (le_false (suc item.place) (length rule) (omega arith), le_false 512 item.next (omega arith))
              (read (bracket a) short is_rule (omega arith) (λ i. Ok (tree_of (size i) (s.written i))))
          go (inr many) =
              rw (le_false (suc item.place) (length rule) (omega arith), le_true 512 item.next (omega arith))
              (too_many_states (bracket a) short is_rule (omega (arith, length_tokens (bracket a), s.count)) refl)

  pub whole_says : (row : List ℕ) (item : Part) → WholeSays rule (alts rule) no_tokens row item → ReadSays rule (answered (states_of item (length rule)) row)
  whole_says row item (a, t, s) = go (le_or_lt (length rule) item.place)
    where
      go : (length rule ≤ item.place) ⊎ (item.place < length rule) → ReadSays rule (answered (states_of item (length rule)) row)
      go (inl h) = all_read row item t s h
      go (inr h) = left_over row item t s h
