-- What was read is the rule's alternatives as one item, and the number of its states says what the table says of it.
use mathlib.Core.Path.{◌≡◌, refl, subst}
use mathlib.Core.List.{List}
use Prim.Native.Nat.{ℕ, ◌≤◌}
use native.Mathlib.Omega.{arith}
use borrow.Author.Rules.{rules}
use lib.ListN.{length, length-replicate}
use Rattle.std.proofs.Common.{Err, Ok, Result}
use Rattle.std.specs.Result.{IsErrAnd, MatchResult}
use Rattle.std.proofs.lemmas.Result.{err_from_is_err_and}
use Rattle.answers.specs.declared.Refusal.{Refusal}
use Rattle.answers.specs.declared.Refusal.TheVariants.{NotARule}
use Rattle.model.specs.Models.Reader.{alts}
use Rattle.rule_bytes.proofs.Laws.Answers.{given_on}
use Rattle.rule.specs.Groups.{WholeSays}
use Rattle.rule.specs.Parts.{AlternativesSay}
use Rattle.rule.specs.Says.{ReadSays, states_of}
use Rattle.rule.specs.Tokens.{no_tokens}
use Rattle.rule.specs.declared.parts.Part.{Part}
use Rattle.rule.proofs.Laws.Groups.{says_counted}
use Rattle.rule.proofs.Laws.Whole.{answered, stopped_says, whole_says}
use Rattle.rule.proofs.read_rule.Goals as goal
use Rattle.rule.proofs.read_rule.Goals.{In_ok-alternatives}

-- what the parts have answered, put together
says : (rule row : List ℕ) (item : Part) (o : Result ℕ Refusal) → length rule ≤ 1024 → WholeSays rule (alts rule) no_tokens row item
    → o ≡ states_of item (length rule) → ReadSays rule (answered o row)
says rule row item o short s q = rw q (whole_says rule short row item s)

-- a refusal in other words: what was read is left as it is, and what was not read stays refused
module _ {A E D : Type 0} (Q : E → D → Type 0) where
  as_read : (r : Result A E) {m : Result A D} {a : A} → MatchResult r (λ x. m ≡ Ok x) (λ e. IsErrAnd m (Q e)) → m ≡ Ok a → r ≡ Ok a
  as_read (Ok x) h e = cc
  as_read (Err d) {m = m} h e = let p = err_from_is_err_and m h in let z = p.1 in cc

  as_refused : (r : Result A E) {m : Result A D} {d : D} → MatchResult r (λ x. m ≡ Ok x) (λ e. IsErrAnd m (Q e)) → m ≡ Err d
      → (e : E) × (r ≡ Err e) × Q e d
  as_refused (Ok x) h e = cc
  as_refused (Err x) {m = m} {d = d} h e =
      let p = err_from_is_err_and m h in
      let z = p.1 in
      let q : p.0 ≡ d = cc in
      (x, refl, subst (Q x) q p.2)

pub read_alternatives-read-requires : goal.read_alternatives-read-requires
read_alternatives-read-requires c = record { inside = omega arith; short = (omega arith); room = length-replicate {A = ℕ} 2555 0; few = omega arith }

read : (c : In_ok-alternatives) → AlternativesSay c.args.rule.now 0 (alts c.args.rule.now) no_tokens c.read_alternatives-read.new.tokens (Ok c.in_ok-alternatives.alternatives)
read c = let r = c.read_alternatives-read in rw (as_read _ r.result c.map_err.ensures.cases c.in_ok-alternatives.was) at r.ensures.reads

pub returns-in_err-alternatives : goal.returns-in_err-alternatives
returns-in_err-alternatives c =
    let r = c.read_alternatives-read in
    let p = as_refused _ r.result c.map_err.ensures.cases c.in_err-alternatives.was in
    let q : c.in_err-alternatives.field-0.0 ≡ NotARule p.0.0 = (let z = p.2 in search rules) in
    rw (given_on c.from_residual.ensures.1, q) (stopped_says c.args.rule.now (omega arith) (rw p.1 at r.ensures.reads))

pub bracket-whole-requires : goal.bracket-whole-requires
bracket-whole-requires c =
    let rule = c.args.rule.now in
    says_counted rule 0 (alts rule) no_tokens c.read_alternatives-read.new.tokens c.in_ok-alternatives.alternatives (omega arith)
    (read (goal.at.bracket-whole-requires c).In_ok-alternatives)

pub returns-in_err-states : goal.returns-in_err-states
returns-in_err-states c =
    let rule = c.args.rule.now in
    let b = c.bracket-whole in
    rw (given_on c.from_residual-in_err-states.ensures.1)
    (says rule b.new.tokens b.result (Err c.in_err-states.field-0.0) (omega arith)
    (b.ensures rule (alts rule) no_tokens (read (goal.at.returns-in_err-states c).In_ok-alternatives)) c.in_err-states.ensures)

pub returns : goal.returns
returns c =
    let rule = c.args.rule.now in
    let b = c.bracket-whole in
    says rule b.new.tokens b.result (Ok c.in_ok-states.states) (omega arith)
    (b.ensures rule (alts rule) no_tokens (read (goal.at.returns c).In_ok-alternatives)) c.in_ok-states.ensures
