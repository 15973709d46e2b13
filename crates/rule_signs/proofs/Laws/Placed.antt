-- WHERE THE READERS STOP: what they answer is what the model read, and the model stops at its place.
use mathlib.Core.List.{List}
use Prim.Native.Nat.{ℕ, ◌≤◌}
use lib.ListN.{drop, length}
use Rattle.model.specs.Models.Reader.{read_number, read_sign}
use Rattle.model.proofs.Reading.Placed.{number_placed, sign_placed}
use Rattle.rule_signs.specs.Answers.{NumberSays, NumberTells, sign_of, SignSays, SignTells}
use Rattle.rule_signs.specs.declared.HowOften.{HowOften}
use Rattle.rule_bytes.proofs.Laws.Answers.{placed}
use Rattle.rule_bytes.specs.declared.Unreadable.{Unreadable}
use Rattle.std.proofs.Common.{Result}

module _ (rule : List ℕ) (at : ℕ) where
  pub number_tells : (least : ℕ) (r : Result (ℕ × ℕ) Unreadable) → at ≤ length rule → NumberSays rule (read_number least (drop at rule)) r
      → NumberTells least rule at r
  number_tells least r h s = record { reads = s; place = λ k. placed (λ n. n) rule at h r s (number_placed least k (drop at rule)) }

  pub sign_tells : (r : Result (HowOften × ℕ) Unreadable) → SignSays rule (read_sign (drop at rule)) r → SignTells rule at r
  sign_tells r s = record { reads = s; place = λ h. placed sign_of rule at h r s (sign_placed (drop at rule)) }
