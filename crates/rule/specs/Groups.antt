-- ALTERNATIVES MADE ONE ITEM: what `group` and its callers read and write.
use Rattle.std.specs.Prelude.{◌≡◌, Bool, true, List, ℕ, Ok, Result}
use Rattle.model.specs.Bytes.{byte}
use Rattle.model.specs.Edges.{alts_empty}
use Rattle.model.specs.Grammar.{bracket, grouped}
use Rattle.model.specs.Models.Reader.{bind, got, past, Read, read_mark}
use Rattle.model.specs.Models.Tokens.{several}
use Rattle.model.specs.Tree.{Alts, Repeat, Seq}
use Rattle.rule_bytes.specs.Places.{Took}
use Rattle.rule_bytes.specs.declared.Unreadable.{Unreadable}
use Rattle.rule.specs.Parts.{AlternativesSay, PartSays, seq_tokens}
use Rattle.rule.specs.Tokens.{between, Stands}
use Rattle.rule.specs.declared.parts.Alternatives.{Alternatives}
use Rattle.rule.specs.declared.parts.Part.{Part}

-- ---- a group of alternatives, of which v says whether they are several, and e whether one can be empty
-- whatever alternatives stand from token n up to `next`, those of the group with the sign k then stand there
abbrev pub Groups : (n next : ℕ) (v e : Bool) → Repeat → (now after : List ℕ) → ℕ → Type 0
Groups n next v e k now after r =
    (a : Alts) (before : List ℕ) → v ≡ several a → e ≡ alts_empty a → Stands before now n next (between a) → Stands before after n r (seq_tokens (grouped a k))

-- ---- alternatives that were read
-- a whole rule's, as one item
abbrev pub WholeSays : List ℕ → Read Alts → List ℕ → List ℕ → Part → Type 0
WholeSays rule m before after r = (a : Alts) × Took rule m a r.place × Stands before after 0 r.next (seq_tokens (bracket a))

abbrev pub Wholes : Alternatives → List ℕ → List ℕ → Part → Type 0
Wholes alternatives now after r =
    (rule : List ℕ) (m : Read Alts) (before : List ℕ) → AlternativesSay rule 0 m before now (Ok alternatives) → WholeSays rule m before after r

-- bracketed ones, before their `)`
abbrev pub closed : Read Alts → Read Seq
closed m = bind m (λ a r. bind (past (byte ")") r) (λ y r'. bind (read_mark r') (λ k r''. got (grouped a k) r'')))

-- whatever was read into the buffer as it was before, closing it is what the model does
abbrev pub Closes : List ℕ → ℕ → Alternatives → List ℕ → List ℕ → Result Part Unreadable → Type 0
Closes rule n alternatives now after r =
    (m : Read Alts) (before : List ℕ) → AlternativesSay rule n m before now (Ok alternatives) → PartSays true rule n (closed m) before after r
