-- `kind_at`: each answer is the one that the tests of `kind_at` choose.
use mathlib.Core.Path.{◌≡◌, sym, ap, ap₂, ◌∙◌}
use mathlib.Core.Bool.{Bool, true, false, cond}
use Prim.Native.Nat.{ℕ, ◌+◌}
use native.Mathlib.Numerals.{add-one}
use Rattle.model.specs.Bits.{bit}
use Rattle.model.specs.Models.Apart.{mark_of, repeat_of}
use Rattle.model.specs.Models.Words.{value}
use Rattle.tokens.specs.Kinds.{bar_kind, mark_kind, open_kind, repeat_kind}
use Rattle.image_apart.specs.Work.{kind_at}
use Rattle.image_apart.specs.declared.marks.Marks.{Marks}
use Rattle.image_apart.proofs.marks.kind_at.Goals as goal

-- ---- the tests, at the code's i + 1
module _ (marks : Marks) (i : ℕ) where
  abbrev letter : ℕ → Bool
  letter n = bit (value marks.letters) n

  abbrev close : ℕ → Bool
  close n = bit (value marks.closes) n

  abbrev if_letter : ℕ → ℕ
  if_letter n = repeat_kind (repeat_of (bit (value marks.entered) n) (bit (value marks.loops) n))

  abbrev if_close : ℕ → ℕ
  if_close n = mark_kind (mark_of (bit (value marks.entered) n) (bit (value marks.returns) i))

  abbrev if_neither : ℕ
  if_neither = cond (bit (value marks.opens) i) open_kind bar_kind

  abbrev kind : ℕ → ℕ
  kind n = cond (letter n) (if_letter n) (cond (close n) (if_close n) if_neither)

  next : kind (i + 1) ≡ kind_at marks i
  next = ap kind (add-one i)

  is-letter : letter (i + 1) ≡ true → if_letter (i + 1) ≡ kind_at marks i
  is-letter e = ap (λ (b : Bool). cond b (if_letter (i + 1)) (cond (close (i + 1)) (if_close (i + 1)) if_neither)) (sym e) ∙ next

  no_letter : letter (i + 1) ≡ false → cond (close (i + 1)) (if_close (i + 1)) if_neither ≡ kind_at marks i
  no_letter e = ap (λ (b : Bool). cond b (if_letter (i + 1)) (cond (close (i + 1)) (if_close (i + 1)) if_neither)) (sym e) ∙ next

  is-close : letter (i + 1) ≡ false → close (i + 1) ≡ true → if_close (i + 1) ≡ kind_at marks i
  is-close e f = ap (λ (b : Bool). cond b (if_close (i + 1)) if_neither) (sym f) ∙ no_letter e

pub returns-then-row_has_bit : goal.returns-then-row_has_bit
returns-then-row_has_bit c =
    let a = c.args in
    c.letter_kind.ensures
    ∙ ap₂ (λ (s p : Bool). repeat_kind (repeat_of s p)) c.row_has_bit-then-row_has_bit.ensures c.row_has_bit-then-row_has_bit-2.ensures
    ∙ is-letter a.marks a.i (sym c.row_has_bit.ensures ∙ c.if-row_has_bit.true)

pub returns-then-row_has_bit-2 : goal.returns-then-row_has_bit-2
returns-then-row_has_bit-2 c =
    let a = c.args in
    c.close_kind.ensures
    ∙ ap₂ (λ (s b : Bool). mark_kind (mark_of s b)) c.row_has_bit-then-row_has_bit-2-2.ensures c.row_has_bit-then-row_has_bit-2-3.ensures
    ∙ is-close a.marks a.i (sym c.row_has_bit.ensures ∙ c.if-row_has_bit.false) (sym c.row_has_bit-2.ensures ∙ c.if-row_has_bit-2.true)
