-- THE THREE READERS, EACH WAY OUT: what the model does by what its callee read and by the byte that follows, and the tokens written on the way.
use mathlib.Core.Path.{◌≡◌, refl, sym, ap, ap₂, ◌∙◌, subst}
use mathlib.Core.Bool.{Bool, true, false, ◌&&◌, ◌||◌, and_assoc, cond}
use mathlib.Core.List.{List}
use Prim.Native.Nat.{ℕ, ◌+◌, ◌*◌, ◌≤◌, ◌<◌}
use native.Mathlib.Omega.{arith}
use lib.Dec.{eqb, eqb_refl}
use lib.ListN.{drop, get_or, length}
use lib.Seq.{sets}
use Rattle.model.specs.Bytes.{byte}
use Rattle.model.specs.Edges.{alts_empty, seq_empty}
use Rattle.model.specs.Models.Reader.{alts, bad, bind, case, got, item, over, past, Read, read_piece, seq}
use Rattle.model.specs.Models.Tokens.{a_bar, Token}
use Rattle.model.specs.Tree.{Alts, glue, last, more, Seq}
use Rattle.model.proofs.Image.Groups.{empty_glue}
use Rattle.model.proofs.Laws.Bool.{is_true, unequal}
use Rattle.model.proofs.Reading.Cycle.{alts_is, item_falls, item_is, seq_falls, seq_is}
use Rattle.std.proofs.Common.{Err, Ok, Result}
use Rattle.rule_bytes.specs.Places.{Stopped}
use Rattle.rule_bytes.specs.declared.Unreadable.{Unreadable}
use Rattle.rule.specs.Groups.{closed}
use Rattle.rule.specs.Parts.{AlternativesSay, PartSays, seq_tokens, Wrote}
use Rattle.tokens.specs.Rows.{token_words}
use Rattle.rule.specs.Tokens.{between, cut}
use Rattle.rule.specs.declared.parts.Alternatives.{Alternatives}
use Rattle.rule.specs.declared.parts.Part.{Part}
use Rattle.rule_bytes.proofs.Laws.Binds.{bind_stops}
use Rattle.rule_bytes.proofs.Laws.Places.{here, inside, stays}
use Rattle.rule_bytes.proofs.Laws.Progress.{further}
use Rattle.rule.proofs.Laws.Rows.{glue_tokens}
use Rattle.rule.proofs.Laws.Stands.{room_after, stands_append, stands_one}

-- ---- the byte x, and no other
module _ (rule : List ℕ) (p : ℕ) {y : ℕ} (e : y ≡ get_or rule p 0) (x : ℕ) where
  pub past_other : p ≤ length rule → (y ≡ x → ⊥) → past x (drop p rule) ≡ bad (drop p rule)
  past_other h n = stays rule p e (past x) h bad refl (λ ys. rw (unequal y x n))

  pub past_one : p < length rule → y ≡ x → past x (drop p rule) ≡ got tt (drop (p + 1) rule)
  past_one h k = rw (here rule p e h, k, is_true (eqb x x) (eqb_refl x))

-- ---- what was written, of another model and in other words
module _ {A B : Type 0} {row : A → List Token} {row' : B → List Token} {empty : A → Bool} {empty' : B → Bool} {rule : List ℕ} {n : ℕ} {m : Read A}
    {m' : Read B} {before after : List ℕ} where
  same_row : {a : A} {b : B} {p next : ℕ} {e e' : Bool} → m' ≡ got b (drop p rule) → row' b ≡ row a → e' ≡ empty' b
      → Wrote row empty rule n m before after a p next e → Wrote row' empty' rule n m' before after b p next e'
  same_row {a} {b} {p} {next} g r o w = record {
    took = record { reads = g; inside = w.took.inside };
    stands = rw r w.stands;
    empties = o;
  }

-- ---- a callee that stops
module _ (rule : List ℕ) (at : ℕ) {p : ℕ} where
  pub sequence_stops : Stopped rule (item (drop at rule)) p → Stopped rule (seq (drop at rule)) p
  sequence_stops h =
      subst (λ m. Stopped rule m p) (sym (seq_is (drop at rule)))
      (bind_stops (λ h r. cond (over r) (got h r) (bind (seq r) (λ t r'. got (glue h t) r'))) h)

  pub alternatives_stop : Stopped rule (seq (drop at rule)) p → Stopped rule (alts (drop at rule)) p
  alternatives_stop h =
      subst (λ m. Stopped rule m p) (sym (alts_is (drop at rule)))
      (bind_stops (λ s r. case (past (byte "|") r) (λ x r'. bind (alts r') (λ a r''. got (more s a) r'')) (got (last s) r)) h)

module _ (rule : List ℕ) (at n : ℕ) {before : List ℕ} where
  -- ---- a sequence, after its first item
  module _ {h : Seq} {p next : ℕ} {e : Bool} {after : List ℕ} (w : Wrote seq_tokens (λ t. true && seq_empty t) rule n (item (drop at rule)) before after h p next e) where
    after_item : seq (drop at rule) ≡ cond (over (drop p rule)) (got h (drop p rule)) (bind (seq (drop p rule)) (λ t r. got (glue h t) r))
    after_item = seq_is (drop at rule) ∙ ap (λ m. bind m (λ h r. cond (over r) (got h r) (bind (seq r) (λ t r'. got (glue h t) r')))) w.took.reads

    pub item_on : at < p
    item_on = further rule w.took at (item_falls (drop at rule))

    pub sequence_ends : (c : Bool) → over (drop p rule) ≡ true → PartSays c rule n (seq (drop at rule)) before after (Ok (record { place = p; next = next; empty = c && e }))
    sequence_ends c o = (h, same_row (after_item ∙ rw o) refl (ap (λ (b : Bool). c && b) w.empties) w)

    pub sequence_goes : (c : Bool) → over (drop p rule) ≡ false → (final : List ℕ) (r : Result Part Unreadable) → PartSays (c && e) rule next (seq (drop p rule)) after final r
        → PartSays c rule n (seq (drop at rule)) before final r
    sequence_goes c o final (Ok r) (t, v) = (
      glue h t,
      record {
        took = record { reads = after_item ∙ rw (o, v.took.reads); inside = v.took.inside };
        stands = rw (glue_tokens h t) (stands_append w.stands v.stands);
        empties =
            v.empties ∙ ap (λ (b : Bool). (c && b) && seq_empty t) w.empties
            ∙ and_assoc c (seq_empty h) (seq_empty t) ∙ ap (λ (b : Bool). c && b) (sym (empty_glue h t));
      },
    )
    sequence_goes c o final (Err e) v = record { reads = after_item ∙ rw (o, v.reads); inside = v.inside }

  -- ---- alternatives, after the first sequence
  module _ {s : Seq} {p next : ℕ} {c : Bool} {after : List ℕ}
      (w : Wrote seq_tokens (λ t. true && seq_empty t) rule n (seq (drop at rule)) before after s p next c) {x : ℕ} (e : x ≡ get_or rule p 0) where
    after_sequence : alts (drop at rule)
        ≡ case (past (byte "|") (drop p rule)) (λ x r. bind (alts r) (λ a r'. got (more s a) r')) (got (last s) (drop p rule))
    after_sequence =
        alts_is (drop at rule)
        ∙ ap (λ m. bind m (λ s r. case (past (byte "|") r) (λ x r'. bind (alts r') (λ a r''. got (more s a) r'')) (got (last s) r))) w.took.reads

    pub sequence_on : at < p
    sequence_on = further rule w.took at (seq_falls (drop at rule))

    pub alternatives_end : (x ≡ byte "|" → ⊥) → AlternativesSay rule n (alts (drop at rule)) before after
        (Ok (record { place = p; next = next; several = false; empty = c }))
    alternatives_end o = (last s, same_row (after_sequence ∙ rw (past_other rule p e (byte "|") w.took.inside o)) refl w.empties w, refl)

    -- a bar, and the alternatives after it
    module _ (o : x ≡ byte "|") where
      bar_inside : p < length rule
      bar_inside = inside rule p e (λ z. omega (arith, z, o))

      after-bar : alts (drop at rule) ≡ bind (alts (drop (p + 1) rule)) (λ a r. got (more s a) r)
      after-bar = after_sequence ∙ rw (past_one rule p e (byte "|") bar_inside o)

      one_more : {final : List ℕ} {a : Alts} {q k : ℕ} {f : Bool}
          → Wrote between alts_empty rule (cut (next + 1)) (alts (drop (p + 1) rule)) (sets after (5 * next) (token_words a_bar)) final a q k f
          → Wrote between alts_empty rule n (alts (drop at rule)) before final (more s a) q k (c || f)
      one_more v = record {
        took = record { reads = after-bar ∙ rw v.took.reads; inside = v.took.inside };
        stands = stands_append w.stands (stands_append (stands_one after next a_bar (room_after w.stands)) v.stands);
        empties = ap₂ ◌||◌ w.empties v.empties;
      }

      pub alternatives_stop_later : {q : ℕ} → Stopped rule (alts (drop (p + 1) rule)) q → Stopped rule (alts (drop at rule)) q
      alternatives_stop_later v = record { reads = after-bar ∙ rw v.reads; inside = v.inside }

      pub alternatives_go : (final : List ℕ) (r : Alternatives)
          → AlternativesSay rule (cut (next + 1)) (alts (drop (p + 1) rule)) (sets after (5 * next) (token_words a_bar)) final (Ok r)
          → AlternativesSay rule n (alts (drop at rule)) before final (Ok (record { place = r.place; next = r.next; several = true; empty = c || r.empty }))
      alternatives_go final r (a, u, o) = (more s a, one_more u, refl)

-- ---- an item
module _ (rule : List ℕ) (at n : ℕ) (before after : List ℕ) (r : Result Part Unreadable) {x : ℕ} (e : x ≡ get_or rule at 0) where
  abbrev Says : Read Seq → Type 0
  Says m = PartSays true rule n m before after r

  pub item_letter : at ≤ length rule → (x ≡ byte "(" → ⊥) → Says (read_piece (drop at rule)) → Says (item (drop at rule))
  item_letter h o v = subst Says (sym (item_is (drop at rule) ∙ rw (past_other rule at e (byte "(") h o))) v

  pub item_bracket : x ≡ byte "(" → Says (closed (alts (drop (at + 1) rule))) → Says (item (drop at rule))
  item_bracket o v = subst Says (sym (item_is (drop at rule) ∙ rw (past_one rule at e (byte "(") (inside rule at e (λ z. omega (arith, z, o))) o))) v
