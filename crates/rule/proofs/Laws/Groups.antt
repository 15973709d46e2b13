-- ALTERNATIVES MADE ONE ITEM: the tokens of a group are those of its alternatives, in a union's open and close or without, and those once more, by its sign and
-- by what the readers know of the alternatives.
use mathlib.Core.Path.{◌≡◌, refl, sym, ap, ap₂, ◌∙◌}
use mathlib.Core.Bool.{Bool, true, false, ◌||◌, and-true, cond}
use mathlib.Core.List.{List, [], ◌∷◌, ◌++◌}
use Prim.Native.Nat.{ℕ, ◌+◌, ◌-◌, ◌≤◌}
use native.Mathlib.Omega.{arith}
use lib.ListN.{drop, get_or}
use Rattle.model.specs.Bytes.{byte}
use Rattle.model.specs.Edges.{alts_empty, seq_empty}
use Rattle.model.specs.Grammar.{bracket, cycle, grouped}
use Rattle.model.specs.Models.Reader.{bind, got, past, Read, read_mark}
use Rattle.model.specs.Models.Tokens.{a_close, an_open, several, shown, Token}
use Rattle.model.specs.Tree.{Alts, can_skip, end, last, more, once, option, optional, plus, Repeat, star, starred, union, unmarked}
use Rattle.model.proofs.Image.Groups.{empty_bracket, empty_glue, option_tokens, plus_tokens, star_tokens}
use Rattle.std.proofs.Common.{Ok}
use Rattle.rule_bytes.specs.Places.{Stopped, Took}
use Rattle.rule.specs.Groups.{closed}
use Rattle.rule.specs.Parts.{AlternativesSay, PartSays, seq_tokens, Wrote}
use Rattle.rule.specs.Tokens.{between, copied, cut, enclosed, Numbered, Stands}
use Rattle.rule.specs.declared.parts.Alternatives.{Alternatives}
use Rattle.rule_bytes.proofs.Laws.Binds.{bind_stops}
use Rattle.rule_bytes.proofs.Laws.Places.{inside}
use Rattle.rule.proofs.Laws.Cycle.{past_one}
use Rattle.rule.proofs.Laws.Rows.{alts_onto, tokens_onto}
use Rattle.rule.proofs.Laws.Stands.{as_union, stands_again, stands_append, stands_union}

-- ---- what can be empty
grouped_empty : (a : Alts) (k : Repeat) → seq_empty (grouped a k) ≡ (can_skip k || alts_empty a)
grouped_empty a once = empty_bracket a
grouped_empty a option = go (alts_empty a) refl
  where
    go : (e : Bool) → alts_empty a ≡ e → seq_empty (cond e (bracket a) (union optional a end)) ≡ true
    go true e = empty_bracket a ∙ e
    go false e = refl
grouped_empty a star = refl
grouped_empty a plus = empty_glue (bracket a) (cycle a) ∙ and-true (seq_empty (bracket a)) ∙ empty_bracket a

-- ---- the tokens of a group, where those of its alternatives stand
module _ (a : Alts) {before now : List ℕ} {n next : ℕ} (s : Stands before now n next (between a)) where
  abbrev Then : List ℕ → ℕ → Repeat → Type 0
  Then after to k = Stands before after n to (seq_tokens (grouped a k))

  pub one_stands : several a ≡ false → Then now next once
  one_stands h = go a s h
    where
      go : (b : Alts) → Stands before now n next (between b) → several b ≡ false → Stands before now n next (seq_tokens (bracket b))
      go (last t) u e = u
      go (more t b) u e = let z : ◌≡◌ {A = ℕ} 0 1 = cc in absurd (omega arith)

  pub union_stands : several a ≡ true → Then (enclosed now n next (shown unmarked (alts_empty a))) (cut (next + 2)) once
  union_stands h = go a s h
    where
      go : (b : Alts) → Stands before now n next (between b) → several b ≡ true
          → Stands before (enclosed now n next (shown unmarked (alts_empty b))) n (cut (next + 2)) (seq_tokens (bracket b))
      go (last t) u e = let z : ◌≡◌ {A = ℕ} 0 1 = cc in absurd (omega arith)
      go (more t b) u e =
          let m = shown unmarked (alts_empty (more t b)) in
          rw (ap (λ (l : List Token). an_open ∷ l) (alts_onto (more t b) m [])) (stands_union u m)

  pub option_stands : alts_empty a ≡ false → Then (enclosed now n next optional) (cut (next + 2)) option
  option_stands h = rw (option_tokens a [] (rw h tt) ∙ ap (λ (l : List Token). an_open ∷ l) (alts_onto a optional [])) (stands_union s optional)

-- ---- and where those of its brackets stand
module _ (a : Alts) {before now : List ℕ} {n next : ℕ} (s : Stands before now n next (seq_tokens (bracket a))) where
  cycle_tokens : seq_tokens (cycle a) ≡ as_union (seq_tokens (bracket a)) starred
  cycle_tokens = star_tokens a [] ∙ ap (λ (l : List Token). an_open ∷ l) (tokens_onto (bracket a) (a_close starred ∷ []))

  pub star_stands : Stands before (enclosed now n next starred) n (cut (next + 2)) (seq_tokens (grouped a star))
  star_stands = rw cycle_tokens (stands_union s starred)

  pub plus_stands : n ≤ 512 → {twice : ℕ} → twice ≡ cut (next + (next - n))
      → Stands before (enclosed (copied now n (next - n) (next - n)) next twice starred) n (cut (twice + 2)) (seq_tokens (grouped a plus))
  plus_stands few e =
      rw (plus_tokens a [] ∙ tokens_onto (bracket a) (seq_tokens (cycle a)) ∙ ap (λ (l : List Token). seq_tokens (bracket a) ++ l) cycle_tokens, e)
      (stands_append s (stands_union (stands_again s few) starred))

-- ---- alternatives that were read
-- the number of the token after them is counted
pub says_counted : (rule : List ℕ) (n : ℕ) (m : Read Alts) (before now : List ℕ) (r : Alternatives) → n ≤ 512
    → AlternativesSay rule n m before now (Ok r) → Numbered n r.next
says_counted rule n m before now r h (a, w, s) = (omega (arith, w.stands.count), omega (arith, w.stands.count))

-- before their `)`
module _ (rule : List ℕ) (n : ℕ) (m : Read Alts) (before : List ℕ) where
  pub close_stops : {p : ℕ} → Stopped rule m p → Stopped rule (closed m) p
  close_stops h = bind_stops (λ a r. bind (past (byte ")") r) (λ y r'. bind (read_mark r') (λ k r''. got (grouped a k) r''))) h

  module _ {now : List ℕ} {a : Alts} {p next : ℕ} {e : Bool} (w : Wrote between alts_empty rule n m before now a p next e) {x : ℕ} (g : x ≡ get_or rule p 0) where
    pub close_here : x ≡ byte ")" → (k : Repeat) {q : ℕ} → Took rule (read_mark (drop (p + 1) rule)) k q → {after : List ℕ} {to : ℕ}
        → Stands before after n to (seq_tokens (grouped a k)) → {f : Bool} → f ≡ can_skip k
        → PartSays true rule n (closed m) before after (Ok (record { place = q; next = to; empty = f || e }))
    close_here o k t s c = (
      grouped a k,
      record {
        took = record { reads = rw (w.took.reads, past_one rule p g (byte ")") (inside rule p g (λ z. omega (arith, z, o))) o, t.reads); inside = t.inside };
        stands = s;
        empties = ap₂ ◌||◌ c w.empties ∙ sym (grouped_empty a k);
      },
    )
