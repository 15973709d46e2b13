-- A letter's text is that of the token; the check finds the others itself.
use mathlib.Core.Path.{sym, ap}
use Prim.Native.Nat.{◌%◌}
use Rattle.image_classes.specs.Classes.{class_in}
use Rattle.tokens.specs.declared.token.Token.{Token}
use Rattle.writing_letters.proofs.Laws.Texts.{writes_as}
use Rattle.writing.specs.Work.{token_text}
use Rattle.writing.proofs.ranges.write_token.Goals as goal

pub returns-in-Letter : goal.returns-in-Letter
returns-in-Letter c =
    let a = c.args in
    let w = c.write_letter.ensures in
    let said = writes_as a.out.now a.at (sym (ap (λ (y : Token). token_text (class_in a.classes.now (a.state % 64)) y) c.in-Letter.is)) (w.place, w.written) in
    record { place = said.0; written = said.1 }
