-- THE NUMBER GIVEN TO C TELLS NUMBER AND COUNT, OR PLACE: the low half is below 2^32. And where the table has one answer, so has the call.
use mathlib.Core.Path.{◌≡◌, sym, ap, ◌∙◌}
use Prim.Native.Nat.{ℕ, ◌+◌, ◌*◌, ◌/◌, ◌%◌, ◌^◌, ◌<◌}
use native.Mathlib.Omega.{arith}
use lib.Arith.{digits_div, digits_mod}
use Rattle.model.specs.Answers.{Answer}
use Rattle.panel.specs.Says.{Gives}

module _ {Given Lent : Type 0} {count : Given → ℕ} {Says : Answer Given Lent → Type 0} {r : ℕ} {after : Lent} (G : Gives count Says r after) where
  -- the two halves, as a caller takes them from r
  pub halves : G.place + count G.given < 2 ^ 32 → (r / 2 ^ 32 ≡ G.number) × (r % 2 ^ 32 ≡ G.place + count G.given)
  halves small = (
    ap (λ (n : ℕ). n / 2 ^ 32) G.packed ∙ digits_div G.number small,
    ap (λ (n : ℕ). n % 2 ^ 32) G.packed ∙ digits_mod G.number small,
  )

  -- number and count, where no answer has a place
  abbrev pub Apart : Type 0
  Apart = (r / 2 ^ 32 ≡ G.number) × (r % 2 ^ 32 ≡ count G.given)

  pub apart : G.place ≡ 0 → count G.given < 2 ^ 32 → Apart
  apart none small = let h = halves (omega (arith, none, small)) in (h.0, omega (arith, h.1, none))

  -- what was given and what was lent settle the number given and what was lent afterwards
  pub one_given : {q : ℕ} {later : Lent} → ((a b : Answer Given Lent) → Says a → Says b → a ≡ b) → Gives count Says q later → (r ≡ q) × (after ≡ later)
  one_given one H =
      let e = one _ _ G.says H.says in
      (G.packed ∙ (λ i. (e i).number * 2 ^ 32 + ((e i).place + count (e i).given)) ∙ sym H.packed, λ i. (e i).lent)
