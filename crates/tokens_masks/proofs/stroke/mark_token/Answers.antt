-- `stroke::mark_token`: a token that fits says how many unions are open, and each kind of token has its strokes.
use mathlib.Core.List.{List}
use mathlib.Core.Path.{ap, ◌∙◌, subst}
use Prim.Native.Nat.{◌<◌}
use native.Mathlib.Omega.{arith}
use Rattle.model.specs.Models.LayOut.{Stroke}
use Rattle.tokens.proofs.Scans.{ready_bar, ready_close, ready_depth, ready_top}
use Rattle.tokens_masks.proofs.Strokes.{bar-strokes, close-strokes, letter-strokes, open-strokes}
use Rattle.tokens_masks.specs.Masks.{paint}
use Rattle.tokens.specs.Scans.{ReadyAt, with_frames}
use Rattle.tokens.specs.declared.Scan.{Scan}
use Rattle.tokens.specs.declared.token.Token.{Token}
use Rattle.tokens.specs.declared.Frame.{Frame}
use Rattle.tokens_masks.proofs.stroke.mark_token.Goals as goal

-- where a token fits, at most eight unions are open
shallow : {q : Scan} {f : Frame} {y : Token} → ReadyAt q f y → q.depth < 9
shallow {q} {f} {y} R = omega (arith, ready_depth (with_frames q R.frames) y R.ready)

pub mark_letter-requires : goal.mark_letter-requires
mark_letter-requires c = (c.requires.ready.below, shallow c.requires)

pub mark_open-requires : goal.mark_open-requires
mark_open-requires c = (c.requires.ready.below, shallow c.requires)

pub mark_bar-requires : goal.mark_bar-requires
mark_bar-requires c = (c.requires.ready.below, omega (arith, shallow c.requires))

pub mark_close-requires : goal.mark_close-requires
mark_close-requires c =
    let q = with_frames c.args.scan c.requires.frames in
    let R = c.requires.ready in
    let inner = ready_close q c.args.token R c.in-Close.shown c.in-Close.is in
    let top =
    subst (λ (f : Frame). (f.alternative < 511) × (f.start < 511)) (c.requires.top inner) (ready_top q c.args.token R c.in-Close.shown c.in-Close.is) in
    (R.below, omega (arith, shallow c.requires), top.0, top.1)

pub returns-in-Letter : goal.returns-in-Letter
returns-in-Letter c = λ fs I.
    c.mark_letter.ensures
    ∙ ap (λ (ss : List Stroke). paint ss c.args.masks.now) (letter-strokes c.args.scan fs _ c.in-Letter.is)

pub returns-in-Open : goal.returns-in-Open
returns-in-Open c = λ fs I.
    c.mark_open.ensures ∙ ap (λ (ss : List Stroke). paint ss c.args.masks.now) (open-strokes c.args.scan fs c.in-Open.is)

pub returns-in-Bar : goal.returns-in-Bar
returns-in-Bar c = λ fs I.
    let inner = ready_bar (with_frames c.args.scan c.requires.frames) c.args.token c.requires.ready c.in-Bar.is in
    c.mark_bar.ensures ∙ ap (λ (ss : List Stroke). paint ss c.args.masks.now) (bar-strokes c.args.scan fs inner c.in-Bar.is)

pub returns-in-Close : goal.returns-in-Close
returns-in-Close c = λ fs I.
    let inner = ready_close (with_frames c.args.scan c.requires.frames) c.args.token c.requires.ready c.in-Close.shown c.in-Close.is in
    c.mark_close.ensures
    ∙ ap (λ (ss : List Stroke). paint ss c.args.masks.now) (close-strokes c.args.scan fs inner c.args.frame I c.in-Close.shown c.in-Close.is)
