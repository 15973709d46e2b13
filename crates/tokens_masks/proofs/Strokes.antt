-- What a token marks, by the depth and the innermost of the code's frames.
use mathlib.Core.Path.{◌≡◌, sym, ap, ◌∙◌}
use mathlib.Core.List.{List}
use Prim.Native.Nat.{◌-◌, ◌<◌}
use Rattle.model.specs.Models.LayOut.{bar_strokes, bar_strokes_in, close_strokes, close_strokes_in, letter_strokes, open_strokes, Stroke, strokes}
use Rattle.tokens.specs.Scans.{frame_of, Innermost, scan_of, with_frames}
use Rattle.tokens.specs.Tokens.{mark_of, repeat_of, token_of}
use Rattle.tokens.specs.declared.Frame.{Frame}
use Rattle.tokens.specs.declared.Scan.{Scan}
use Rattle.tokens.specs.declared.token.Mark.{Mark}
use Rattle.tokens.specs.declared.token.Repeat.{Repeat}
use Rattle.tokens.specs.declared.token.Token.{Token}
use Rattle.tokens.specs.declared.token.Token.TheVariants.{Bar, Close, Letter, Open}
use Rattle.tokens.proofs.Scans.{length_stack, stack_is, top_is}

-- ---- what a token marks
module _ (q : Scan) (fs : List Frame) where
  abbrev strokes_at : Token → List Stroke
  strokes_at y = strokes (token_of y) (scan_of (with_frames q fs))

  pub letter-strokes : {x : Token} (k : Repeat) → x ≡ Letter k → letter_strokes (repeat_of k) q.position q.depth ≡ strokes_at x
  letter-strokes k e = ap (letter_strokes (repeat_of k) q.position) (sym (length_stack fs q.depth)) ∙ ap strokes_at (sym e)

  pub open-strokes : {x : Token} → x ≡ Open → open_strokes q.position q.depth ≡ strokes_at x
  open-strokes e = ap (open_strokes q.position) (sym (length_stack fs q.depth)) ∙ ap strokes_at (sym e)

  module _ (h : 0 < q.depth) where
    pub bar-strokes : {x : Token} → x ≡ Bar → bar_strokes q.position (q.depth - 1) ≡ strokes_at x
    bar-strokes e =
        sym (ap (bar_strokes_in q.position) (top_is fs q.depth h) ∙ ap (bar_strokes q.position) (length_stack fs (q.depth - 1))) ∙ ap strokes_at (sym e)

    pub close-strokes : {x : Token} (top : Frame) → Innermost q top fs → (m : Mark) → x ≡ Close m
        → close_strokes (mark_of m) (frame_of top) q.position (q.depth - 1) ≡ strokes_at x
    close-strokes top I m e =
        sym (ap (close_strokes_in (mark_of m) q.position) (stack_is q fs top I h)
        ∙ ap (close_strokes (mark_of m) (frame_of top) q.position) (length_stack fs (q.depth - 1)))
        ∙ ap strokes_at (sym e)
