-- The three readers do what the model's three do, by one induction: from call to call the bytes that remain fall.
use mathlib.Core.Bool.{Bool, true}
use mathlib.Core.List.{List}
use Prim.Native.Nat.{ℕ, ◌+◌, ◌-◌, ◌*◌, ◌≤◌}
use lib.ListN.{drop, length}
use Rattle.model.specs.Models.Reader.{seq}
use Rattle.std.proofs.Common.{Result}
use Rattle.rule_bytes.specs.declared.Unreadable.{Unreadable}
use Rattle.rule.specs.Parts.{PartSays, Ready}
use Rattle.rule.specs.declared.parts.Part.{Part}
use Rattle.rule.proofs.readers.+read_alternatives_read_item_read_sequence.Given as goal

-- three for each byte that remains, and one, two or three for the reader
abbrev pub decreases-read_alternatives : goal.decreases-read_alternatives
decreases-read_alternatives l = 3 * (length l.rule.now - l.at) + 3

abbrev pub decreases-read_item : goal.decreases-read_item
decreases-read_item l = 3 * (length l.rule.now - l.at) + 1

abbrev pub decreases-read_sequence : goal.decreases-read_sequence
decreases-read_sequence l = 3 * (length l.rule.now - l.at) + 2

-- before an item, which begins at a place of its own: whatever the items from here on say, the whole sequence says
pub record Going (rule : List ℕ) (at : ℕ) (before : List ℕ) (n : ℕ) (now : List ℕ) (place next : ℕ) (can_be_empty : Bool) : Type 0 where
  pub ready : Ready rule place now next
  pub on : at ≤ place
  pub goes : (final : List ℕ) (r : Result Part Unreadable) → PartSays can_be_empty rule next (seq (drop place rule)) now final r → PartSays true rule n (seq (drop at rule)) before final r

abbrev pub invariant-read_sequence-loop-item : goal.invariant-read_sequence-loop-item
invariant-read_sequence-loop-item l = Going l.rule l.at l.initial.tokens l.n l.tokens l.place l.next l.empty

abbrev pub decreases-read_sequence-loop-item : goal.decreases-read_sequence-loop-item
decreases-read_sequence-loop-item l = length l.rule - l.place
