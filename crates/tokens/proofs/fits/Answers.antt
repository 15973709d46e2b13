-- `fits` asks what the model asks: the tests of the depth and of the innermost frame are tests of the stack.
use mathlib.Core.Bool.{Bool, not, ◌&&◌, ◌||◌}
use mathlib.Core.Path.{sym, ap, ◌∙◌}
use Prim.Native.Nat.{ℕ}
use lib.Dec.{ltb}
use Rattle.model.specs.Models.LayOut.{check, fitting}
use Rattle.tokens.proofs.Scans.{fitting_is, length_stack}
use Rattle.tokens.specs.Scans.{scan_of, with_frames}
use Rattle.tokens.specs.Tokens.{mark_of, token_of}
use Rattle.tokens.specs.declared.token.Token.{Token}
use Rattle.tokens.proofs.fits.Goals as goal

pub returns-in-Open : goal.returns-in-Open
returns-in-Open c = λ fs I.
    let q = c.args.scan in
    sym (ap (λ (y : Token). check (token_of y) (scan_of (with_frames q fs))) c.in-Open.is ∙ ap (λ (n : ℕ). ltb n 8) (length_stack fs q.depth))

pub returns-in-Close : goal.returns-in-Close
returns-in-Close c = λ fs I.
    let m = c.may_show-fitting in
    let a = c.args in
    let q = a.scan in
    let empty = a.frame.empty_before || q.can_be_empty in
    ap (λ (b : Bool). (ltb 0 q.depth && b) && not q.no_item)
    (m.ensures ∙ ap (λ (several : Bool). fitting (mark_of c.in-Close.mark) several empty) c.is_some-barred.ensures)
    ∙ ap (λ (b : Bool). b && not q.no_item) (fitting_is q fs a.frame (mark_of c.in-Close.mark) I)
    ∙ sym (ap (λ (y : Token). check (token_of y) (scan_of (with_frames q fs))) c.in-Close.is)
