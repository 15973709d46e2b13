-- Lay out marks no depth past the one that the tokens reach, and a union's places above that one: so lie the strokes of every token.
use mathlib.Core.Path.{sym, subst}
use mathlib.Core.Logic.{◌⊎◌, inl, inr}
use mathlib.Core.Bool.{Bool, ◌&&◌, ◌||◌}
use mathlib.Core.List.{List, [], ◌∷◌}
use Prim.Native.Nat.{ℕ, suc, ◌≤◌, ◌<◌, max}
use native.Mathlib.Omega.{arith}
use lib.Dec.{T, eqb, eqb→eq, leb, ltb}
use lib.ListN.{length}
use Rattle.model.specs.Lists.{All}
use Rattle.model.specs.Models.LayOut.{after_bar, after_close, back-source, back-target, bar_strokes_in, close_strokes_in, covers, entering, Frame, gather-source, gather-target, lay_out, leaving, mark, marks, number, one_state, reach, same_plane, Scan, scatter-block, scatter-source, scatter-target, step, Stroke, strokes, Plane}
use Rattle.model.specs.Models.Tokens.{a_bar, a_close, a_letter, an_open, Token}
use Rattle.model.proofs.Laws.Bool.{and_split, or_split}
use Rattle.model.proofs.Laws.Lists.{all_in, any_out}
use Rattle.tokens_masks.specs.Masks.{block_plane}
use Rattle.tokens_masks.proofs.Within.{close_all, letter_all}

-- the planes of unions, by their numbers: scatter's, gather's and the back edges'
abbrev of_union_at : ℕ → Bool
of_union_at n = (leb (number scatter-block) n && ltb n block_plane) || leb (number back-source) n

abbrev pub of_union : Plane → Bool
of_union w = of_union_at (number w)

-- a stroke of depth n at most, and less for a mask of unions
abbrev Deep : ℕ → Stroke → Type 0
Deep n s = (s.row ≤ n) × (T (of_union s.plane) → s.row < n)

-- where the tokens and the scan before them reach
abbrev reached : List Token → Scan → ℕ
reached l q = max (length q.stack) (reach l q)

-- the strokes of unions
two_deep : (u w : Plane) (d x y n : ℕ) → d < n → All (Deep n) (one_state u d x ∷ one_state w d y ∷ [])
two_deep u w d x y n h = ((omega arith, λ t. h), ((omega arith, λ t. h), tt))

strokes_deep : (y : Token) (ys : List Token) (q : Scan) → All (Deep (reached (y ∷ ys) q)) (strokes y q)
strokes_deep (a_letter c r) ys q =
    letter_all (Deep (reached (a_letter c r ∷ ys) q)) r q.position (length q.stack) (omega arith, λ u. absurd u) (omega arith, λ u. absurd u)
    ((omega arith, λ u. absurd u), ((omega arith, λ u. absurd u), tt))
strokes_deep an_open ys q =
    two_deep scatter-source scatter-target (length q.stack) q.position (suc q.position) (reached (an_open ∷ ys) q) (omega arith)
strokes_deep a_bar ys q = go q.stack (reach (a_bar ∷ ys) q)
  where
    go : (st : List Frame) (n : ℕ) → All (Deep (max (length st) n)) (bar_strokes_in q.position st)
    go [] n = tt
    go (f ∷ st) n = two_deep scatter-target gather-source (length st) (suc q.position) q.position (max (suc (length st)) n) (omega arith)
strokes_deep (a_close m) ys q = go q.stack (reach (a_close m ∷ ys) q)
  where
    go : (st : List Frame) (n : ℕ) → All (Deep (max (length st) n)) (close_strokes_in m q.position st)
    go [] n = tt
    go (f ∷ st) n =
        let z = q.position in
        let d = length st in
        let top = max (suc d) n in
        let h : d < top = omega arith in
        close_all (Deep top) m f z d ((omega arith, λ t. h), ((omega arith, λ t. h), two_deep gather-source gather-target d z (suc z) top h))
        (two_deep leaving entering d f.start (suc z) top h) (two_deep back-source back-target d z (suc f.start) top h)

-- past a token no more is reached
step_reached : (y : Token) (ys : List Token) (q : Scan) → reached ys (step y q) ≤ reached (y ∷ ys) q
step_reached (a_letter c r) ys q = omega arith
step_reached an_open ys q = omega arith
step_reached a_bar ys q = omega (arith, go q.stack)
  where
    go : (st : List Frame) → length (after_bar q.position q.can_be_empty st).stack ≤ length st
    go [] = omega arith
    go (f ∷ st) = omega arith
step_reached (a_close m) ys q = omega (arith, go q.stack)
  where
    go : (st : List Frame) → length (after_close m q.position q.can_be_empty st).stack ≤ length st
    go [] = omega arith
    go (f ∷ st) = omega arith

module _ (k x : ℕ) where
  abbrev Below : Plane → ℕ → Type 0
  Below w n = (k ≤ n) × (T (of_union w) → k < n)

  stroke_below : (w : Plane) (n : ℕ) (s : Stroke) → Deep n s → T (marks w k x s) → Below w n
  stroke_below w n s D t =
      let c = and_split (same_plane s.plane w) (covers s k x) t in
      let e = eqb→eq s.row k (and_split (leb s.from x && ltb x s.to) (eqb s.row k) c.1).1 in
      let v = eqb→eq (number s.plane) (number w) c.0 in
      (omega (arith, D.0), λ u. omega (arith, D.1 (subst (λ (i : ℕ). T (of_union_at i)) (sym v) u)))

  pub deep : (l : List Token) (q : Scan) (w : Plane) → T (lay_out l q w k x) → Below w (reached l q)
  deep [] q w t = absurd t
  deep (y ∷ ys) q w t = go (or_split (mark y q w k x) (lay_out ys (step y q) w k x) t) (λ m. deep ys (step y q) w m)
    where
      n : ℕ
      n = reached (y ∷ ys) q

      go : T (mark y q w k x) ⊎ T (lay_out ys (step y q) w k x) → (T (lay_out ys (step y q) w k x) → Below w (reached ys (step y q))) → Below w n
      go (inl m) later = let o = any_out (marks w k x) (strokes y q) m in stroke_below w n o.0 (all_in (Deep n) (strokes y q) (strokes_deep y ys q) o.0 o.1) o.2
      go (inr m) later = let b = later m in (omega (arith, b.0, step_reached y ys q), λ u. omega (arith, b.1 u, step_reached y ys q))
