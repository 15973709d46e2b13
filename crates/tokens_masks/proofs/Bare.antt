-- A token without its class does the same: neither the scan nor lay out looks at the classes, nor does a union's own mark depend on them.
use mathlib.Core.Path.{◌≡◌, refl, ap, ap₂, ◌∙◌}
use mathlib.Core.Bool.{Bool, ◌&&◌, ◌||◌}
use mathlib.Core.List.{List, [], ◌∷◌}
use Prim.Native.Nat.{ℕ, suc, max}
use lib.ListN.{length}
use Rattle.model.specs.Models.LayOut.{check, empty_in, lay_out, mark, own, owns, reach, Scan, step, valid, Plane}
use Rattle.model.specs.Models.Tokens.{a_bar, a_close, a_letter, an_open, Token}
use Rattle.tokens.specs.Tokens.{bare}
use Rattle.tokens_masks.specs.Tapes.{bares}

bare_step : (y : Token) (q : Scan) → step (bare y) q ≡ step y q
bare_step (a_letter c r) q = refl
bare_step an_open q = refl
bare_step a_bar q = refl
bare_step (a_close m) q = refl

bare_mark : (y : Token) (q : Scan) (w : Plane) (k x : ℕ) → mark (bare y) q w k x ≡ mark y q w k x
bare_mark (a_letter c r) q w k x = refl
bare_mark an_open q w k x = refl
bare_mark a_bar q w k x = refl
bare_mark (a_close m) q w k x = refl

bare_check : (y : Token) (q : Scan) → check (bare y) q ≡ check y q
bare_check (a_letter c r) q = refl
bare_check an_open q = refl
bare_check a_bar q = refl
bare_check (a_close m) q = refl

bare_own : (y : Token) (e : Bool) → own (bare y) e ≡ bare (own y e)
bare_own (a_letter c r) e = refl
bare_own an_open e = refl
bare_own a_bar e = refl
bare_own (a_close m) e = refl

-- ---- so do rows of them
pub bares_length : (l : List Token) → length (bares l) ≡ length l
bares_length [] = refl
bares_length (y ∷ ys) = ap suc (bares_length ys)

pub bares_valid : (l : List Token) (q : Scan) → valid (bares l) q ≡ valid l q
bares_valid [] q = refl
bares_valid (y ∷ ys) q = ap₂ ◌&&◌ (bare_check y q) (ap (valid (bares ys)) (bare_step y q) ∙ bares_valid ys (step y q))

pub bares_lay : (l : List Token) (q : Scan) (w : Plane) (k x : ℕ) → lay_out (bares l) q w k x ≡ lay_out l q w k x
bares_lay [] q w k x = refl
bares_lay (y ∷ ys) q w k x =
    ap₂ ◌||◌ (bare_mark y q w k x) (ap (λ (z : Scan). lay_out (bares ys) z w k x) (bare_step y q) ∙ bares_lay ys (step y q) w k x)

pub bares_reach : (l : List Token) (q : Scan) → reach (bares l) q ≡ reach l q
bares_reach [] q = refl
bares_reach (a_letter c r ∷ ys) q = bares_reach ys (step (a_letter c r) q)
bares_reach (an_open ∷ ys) q = ap (max (suc (length q.stack))) (bares_reach ys (step an_open q))
bares_reach (a_bar ∷ ys) q = bares_reach ys (step a_bar q)
bares_reach (a_close m ∷ ys) q = bares_reach ys (step (a_close m) q)

pub bares_own : (l : List Token) (q : Scan) → owns (bares l) q ≡ bares (owns l q)
bares_own [] q = refl
bares_own (y ∷ ys) q =
    ap₂ (λ (x : Token) (xs : List Token). x ∷ xs) (bare_own y (empty_in q.can_be_empty q.stack))
    (ap (owns (bares ys)) (bare_step y q) ∙ bares_own ys (step y q))
