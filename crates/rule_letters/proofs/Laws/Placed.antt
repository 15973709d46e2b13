-- WHERE THE READERS STOP: what they answer is what the model read, and the model stops at its place.
use mathlib.Core.List.{List}
use Prim.Native.Nat.{ℕ, ◌≤◌}
use lib.ListN.{drop, length}
use Rattle.model.specs.Models.Reader.{read_letter, read_single}
use Rattle.model.proofs.Reading.Placed.{class_placed, letter_placed, single_placed}
use Rattle.rule_letters.specs.Answers.{ByteSays, ClassTells, LetterSays, LetterTells, SingleTells}
use Rattle.rule_letters.specs.Classes.{after_bracket, bytes_of}
use Rattle.rule_letters.specs.declared.classes.Class.{Class}
use Rattle.rule_bytes.proofs.Laws.Answers.{placed}
use Rattle.rule_bytes.specs.declared.Unreadable.{Unreadable}
use Rattle.std.proofs.Common.{Result}

module _ (rule : List ℕ) (at : ℕ) where
  pub single_tells : (lo : ℕ) (r : Result (ℕ × ℕ) Unreadable) → lo ≤ 255 → at ≤ length rule → ByteSays rule (read_single lo (drop at rule)) r → SingleTells lo rule at r
  single_tells lo r k h s = record { reads = s; place = placed (λ b. b) rule at h r s (single_placed lo k (drop at rule)) }

  pub class_tells : (r : Result (Class × ℕ) Unreadable) → at ≤ length rule → LetterSays rule (after_bracket (drop at rule)) r → ClassTells rule at r
  class_tells r h s = record { reads = s; place = placed bytes_of rule at h r s (class_placed (drop at rule)) }

  pub letter_tells : (r : Result (Class × ℕ) Unreadable) → LetterSays rule (read_letter (drop at rule)) r → LetterTells rule at r
  letter_tells r s = record { reads = s; place = λ h. placed bytes_of rule at h r s (letter_placed (drop at rule)) }
