-- `shift`: the words are copied at once, as far as there is room for them; past it nothing is written.
use mathlib.Core.Path.{◌≡◌, sym, ◌∙◌}
use mathlib.Core.Logic.{◌⊎◌, inl, inr}
use mathlib.Core.List.{List}
use Prim.Native.Nat.{ℕ, ◌+◌, ◌-◌, ◌*◌, ◌≤◌, ◌<◌, min}
use native.Mathlib.Omega.{arith}
use lib.ListN.{drop, length, length-drop, take}
use lib.Seq.{paste}
use Rattle.model.proofs.Laws.Bool.{le_or_lt}
use Rattle.rule.specs.Tokens.{copied}
use Rattle.rule.proofs.Laws.Stores.{pasted, sets_past}
use Rattle.rule.proofs.rows.shift.Goals as goal

module _ (l : List ℕ) (from to by : ℕ) where
  abbrev place : ℕ
  place = 5 * (from + by)

  moved : {end : ℕ} → length l ≡ 2555 → from ≤ to → to ≤ 512 → place < 2555 → end ≡ min (5 * to) (2555 - 5 * by)
      → paste l place (drop (5 * from) l) (end - 5 * from) ≡ copied l from (to - from) by
  moved {end} room h k b e =
      pasted l place (end - 5 * from) (5 * (to - from)) (drop (5 * from) l) (omega arith) (omega arith) (omega (arith, length-drop (5 * from) l))
      (go (le_or_lt (5 * to) (2555 - 5 * by)))
    where
      go : (5 * to ≤ 2555 - 5 * by) ⊎ (2555 - 5 * by < 5 * to) → (end - 5 * from ≡ 5 * (to - from)) ⊎ (length l ≤ place + (end - 5 * from))
      go (inl p) = inl (omega arith)
      go (inr p) = inr (omega arith)

pub returns-then-place-room : goal.returns-then-place-room
returns-then-place-room c =
    let a = c.args in
    c.copy_within.ensures.after ∙ moved a.tokens.now a.from a.to a.by (omega arith) (omega arith) (omega arith) (omega arith) c.min-end.ensures

pub returns-else-place-room : goal.returns-else-place-room
returns-else-place-room c =
    let a = c.args in
    let l = a.tokens.now in
    sym (sets_past l (5 * (a.from + a.by)) (take (5 * (a.to - a.from)) (drop (5 * a.from) l)) (omega arith))
