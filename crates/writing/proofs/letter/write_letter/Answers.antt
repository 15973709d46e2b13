-- The class, as the number that its four words make, and then the sign.
use mathlib.Core.Path.{◌≡◌, ap}
use mathlib.Core.List.{List}
use Prim.Native.Nat.{ℕ, ◌+◌, ◌%◌, ◌^◌, ◌<◌}
use native.Mathlib.Omega.{arith}
use lib.ListN.{length}
use Rattle.model.specs.Models.Words.{value}
use Rattle.model.specs.Writing.{class_writing, repeat_writing}
use Rattle.image_classes.specs.Classes.{class_in}
use Rattle.tokens.specs.Tokens.{repeat_of}
use Rattle.writing_letters.proofs.Laws.Bounds.{class_short}
use Rattle.writing_letters.proofs.Laws.Texts.{writes_as, writes_then}
use Rattle.writing.proofs.letter.write_letter.Goals as goal

after_class : (class : ℕ) {at p : ℕ} → at < 2 ^ 30 → p ≡ at + length (class_writing class) → p < 2 ^ 32
after_class class h e = omega (arith, class_short class)

pub write_sign-requires : goal.write_sign-requires
write_sign-requires c =
    let p = c.requires in
    let class = c.class_of-class.result in
    after_class (value class) p c.write_class-p.ensures.place

pub returns : goal.returns
returns c =
    let a = c.args in
    let k = c.write_class-p.ensures in
    let r = c.write_sign.ensures in
    let said = writes_then a.out.now a.at (class_writing (class_in a.classes.now (a.state % 64))) (repeat_writing (repeat_of a.repeat))
    (writes_as a.out.now a.at (ap (λ (w : List ℕ). class_writing (value w)) c.class_of-class.ensures) (k.place, k.written))
    (r.place, r.written) in
    record { place = said.0; written = said.1 }
