-- `put_column`: after each byte the table has those up to it that lead to each state of the column, and after the last all of them.
use mathlib.Core.Path.{◌≡◌, refl, ap, subst}
use Prim.Native.Nat.{ℕ, ◌+◌}
use native.Mathlib.Omega.{arith}
use Rattle.image_sections.specs.declared.Sections.{Sections}
use Rattle.image_sections.proofs.Laws.Within.{words_fit}
use Rattle.image_classes.proofs.Laws.Filled.{all_bytes, Upto, upto_none}
use Rattle.image_classes.proofs.put_column.Goals as goal

pub loop-byte-init : goal.loop-byte-init
loop-byte-init c = let image = c.args.image.now in upto_none image.words.now (image.sections.letters + c.args.column) image.sections.width refl

pub returns : goal.returns
returns c =
    let image = c.args.image.now in
    let column = c.args.column in
    let l = c.loop-byte in
    let e : l.byte ≡ 256 = omega arith in
    all_bytes image.words.now (words_fit image.words.now image.fit) image.sections.width column c.requires
    (ap (λ (p : Sections). p.letters) image.placed.own)
    (subst (λ (n : ℕ). Upto image.words.now (image.sections.letters + column) image.sections.width n l.classes) e l.invariant)
