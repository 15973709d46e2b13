-- WHAT THE THREE READERS' ANSWERS SAY: what the model read, the place after it, its tokens, written from token n on, and whether it can be empty; and what
-- the place means for the texts that are read (`TakesAt`, `StopsAt`).
use Rattle.std.specs.Prelude.{◌≡◌, Bool, Err, true, ◌&&◌, List, [], ℕ, ◌≤◌, Ok, Result, drop, length}
use Rattle.model.specs.Edges.{alts_empty, seq_empty}
use Rattle.model.specs.Grammar.{IsAlts, repeated}
use Rattle.model.specs.Models.Places.{closes, StopsAt, TakesAt}
use Rattle.model.specs.Models.Reader.{alts, bind, got, Read, read_sign}
use Rattle.model.specs.Models.Tokens.{several, Token, tokens}
use Rattle.model.specs.Tree.{Alts, Seq}
use Rattle.rule_bytes.specs.Places.{Stopped, Took}
use Rattle.rule_bytes.specs.declared.Unreadable.{Unreadable}
use Rattle.rule.specs.Tokens.{between, Stands}
use Rattle.rule.specs.declared.parts.Alternatives.{Alternatives}
use Rattle.rule.specs.declared.parts.Part.{Part}

-- where a reader may begin: at a place of a rule that is not too long, with room for the tokens, of which one that is counted comes next
pub record Ready (rule : List ℕ) (at : ℕ) (tokens : List ℕ) (n : ℕ) : Type 0 where
  pub inside : at ≤ length rule
  pub short : length rule ≤ 1024
  pub room : length tokens ≡ 2555
  pub few : n ≤ 512

-- the model read a up to p; its tokens stand in the buffer from token n on, up to `next`; and e says whether it can be empty
module _ {A : Type 0} (row : A → List Token) (empty : A → Bool) (rule : List ℕ) (n : ℕ) (m : Read A) (before after : List ℕ) where
  pub record Wrote (a : A) (p next : ℕ) (e : Bool) : Type 0 where
    pub took : Took rule m a p
    pub stands : Stands before after n next (row a)
    pub empties : e ≡ empty a

abbrev pub seq_tokens : Seq → List Token
seq_tokens s = tokens s []

-- c says whether what stands before in the same sequence can be empty, and the answer whether all of it can
abbrev pub PartSays : Bool → List ℕ → ℕ → Read Seq → List ℕ → List ℕ → Result Part Unreadable → Type 0
PartSays c rule n m before after (Ok r) = (s : Seq) × Wrote seq_tokens (λ t. c && seq_empty t) rule n m before after s r.place r.next r.empty
PartSays c rule n m before after (Err e) = Stopped rule m e.0

-- of several alternatives the bars are written, and not yet the open and the close
abbrev pub AlternativesSay : List ℕ → ℕ → Read Alts → List ℕ → List ℕ → Result Alternatives Unreadable → Type 0
AlternativesSay rule n m before after (Ok r) = (a : Alts) × Wrote between alts_empty rule n m before after a r.place r.next r.empty × (r.several ≡ several a)
AlternativesSay rule n m before after (Err e) = Stopped rule m e.0

-- what is read after the letter c
abbrev pub after_letter : ℕ → List ℕ → Read Seq
after_letter c l = bind (read_sign l) (λ q r. got (repeated c q) r)

-- ---- where they stop
-- the reader of texts X, each before bytes that pass the test F
abbrev pub PartPlaced : (X : List ℕ → Seq → Type 0) (F : List ℕ → Bool) → List ℕ → (at : ℕ) → Result Part Unreadable → Type 0
PartPlaced X F rule at (Ok r) = (s : Seq) × TakesAt X F rule at r.place s
PartPlaced X F rule at (Err e) = StopsAt X F rule at e.0

pub record PartTells (X : List ℕ → Seq → Type 0) (F : List ℕ → Bool) (reader : List ℕ → Read Seq) (rule : List ℕ) (at n : ℕ) (before after : List ℕ)
    (r : Result Part Unreadable) : Type 0 where
  pub reads : PartSays true rule n (reader (drop at rule)) before after r
  pub place : PartPlaced X F rule at r

abbrev pub AlternativesPlaced : List ℕ → (at : ℕ) → Result Alternatives Unreadable → Type 0
AlternativesPlaced rule at (Ok r) = (a : Alts) × TakesAt IsAlts closes rule at r.place a
AlternativesPlaced rule at (Err e) = StopsAt IsAlts closes rule at e.0

pub record AlternativesTell (rule : List ℕ) (at n : ℕ) (before after : List ℕ) (r : Result Alternatives Unreadable) : Type 0 where
  pub reads : AlternativesSay rule n (alts (drop at rule)) before after r
  pub place : AlternativesPlaced rule at r
