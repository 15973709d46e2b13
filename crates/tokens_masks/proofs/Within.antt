-- The strokes of a token before a state below 511 lie within nine rows of 512 states, in every sane scan.
use mathlib.Core.Bool.{Bool, true, false, cond}
use mathlib.Core.List.{List, [], ◌∷◌, ◌++◌}
use Prim.Native.Nat.{ℕ, suc, ◌≤◌, ◌<◌}
use native.Mathlib.Omega.{arith}
use lib.ListN.{length}
use Rattle.model.specs.Lists.{All}
use Rattle.model.specs.Tree.{can_loop, can_omit, can_return, can_skip, Mark, Repeat}
use Rattle.model.specs.Models.LayOut.{back-source, back-target, back_strokes, bar_strokes_in, close_strokes, close_strokes_in, end_strokes, entering, Frame, gather-source, gather-target, leaving, letter-place, letter_strokes, loop_place, one_state, propagate_strokes, Scan, scatter-source, scatter-target, Stroke, strokes, Plane}
use Rattle.model.specs.Models.Tokens.{a_bar, a_close, a_letter, an_open, Token}
use Rattle.model.proofs.Laws.Lists.{all_app}
use Rattle.tokens.specs.Scans.{Behind, Sane}

-- ---- what holds for all strokes of a letter, and of a close, where some are there only if a test passes
module _ (Q : Stroke → Type 0) where
  all_if : (b : Bool) (ss : List Stroke) → All Q ss → All Q (cond b ss [])
  all_if true ss A = A
  all_if false ss A = tt

  pub letter_all : (r : Repeat) (t d : ℕ) → Q (one_state letter-place 0 (suc t)) → Q (one_state loop_place 0 (suc t)) → All Q (propagate_strokes d t (suc t))
      → All Q (letter_strokes r t d)
  letter_all r t d place loop skips =
      let ls = one_state loop_place 0 (suc t) ∷ [] in
      let ss = propagate_strokes d t (suc t) in
      (place, all_app Q (cond (can_loop r) ls []) (cond (can_skip r) ss []) (all_if (can_loop r) ls (loop, tt)) (all_if (can_skip r) ss skips))

  pub close_all : (m : Mark) (f : Frame) (z d : ℕ) → All Q (end_strokes f z d) → All Q (propagate_strokes d f.start (suc z)) → All Q (back_strokes d z (suc f.start))
      → All Q (close_strokes m f z d)
  close_all m f z d ends over back =
      let os = propagate_strokes d f.start (suc z) in
      let bs = back_strokes d z (suc f.start) in
      all_app Q (end_strokes f z d) (cond (can_omit m) os [] ++ cond (can_return m) bs []) ends
      (all_app Q (cond (can_omit m) os []) (cond (can_return m) bs []) (all_if (can_omit m) os over) (all_if (can_return m) bs back))

abbrev pub Within : Stroke → Type 0
Within s = (s.row < 9) × (s.to ≤ 512)

-- two states of one depth
two_within : (u w : Plane) (d x y : ℕ) → d < 9 → x < 512 → y < 512 → All Within (one_state u d x ∷ one_state w d y ∷ [])
two_within u w d x y hd hx hy = ((hd, hx), ((hd, hy), tt))

-- EVERY TOKEN'S STROKES LIE WITHIN
pub strokes_within : (y : Token) (q : Scan) → Sane q → q.position < 511 → All Within (strokes y q)
strokes_within (a_letter c r) q S h =
    let t = q.position in
    letter_all Within r t (length q.stack) (omega arith) (omega arith)
    (two_within leaving entering (length q.stack) t (suc t) (omega (arith, S.shallow)) (omega arith) (omega arith))
strokes_within an_open q S h =
    let t = q.position in
    two_within scatter-source scatter-target (length q.stack) t (suc t) (omega (arith, S.shallow)) (omega arith) (omega arith)
strokes_within a_bar q S h = go q.stack S.shallow
  where
    z : ℕ
    z = q.position

    go : (st : List Frame) → length st ≤ 8 → All Within (bar_strokes_in z st)
    go [] l = tt
    go (f ∷ st) l = two_within scatter-target gather-source (length st) (suc z) z (omega arith) (omega arith) (omega arith)
strokes_within (a_close m) q S h = go q.stack S.behind S.shallow
  where
    z : ℕ
    z = q.position

    go : (st : List Frame) → Behind z st → length st ≤ 8 → All Within (close_strokes_in m z st)
    go [] B l = tt
    go (f ∷ st) B l =
        let d = length st in
        let hd : d < 9 = omega arith in
        close_all Within m f z d ((hd, omega (arith, B.2)), ((hd, omega arith), two_within gather-source gather-target d z (suc z) hd (omega arith) (omega arith)))
        (two_within leaving entering d f.start (suc z) hd (omega (arith, B.0)) (omega arith))
        (two_within back-source back-target d z (suc f.start) hd (omega arith) (omega (arith, B.0)))
