-- Every scan of a valid row of tokens is sane: a token that fits leaves the places of the open unions behind, and no more than eight open.
use mathlib.Core.Bool.{Bool, true, false, cond}
use mathlib.Core.List.{List, [], ◌∷◌}
use Prim.Native.Nat.{ℕ, suc, ◌≤◌}
use native.Mathlib.Nat.{le_refl}
use native.Mathlib.Omega.{arith}
use lib.Dec.{T, ltb→lt}
use lib.ListN.{length}
use Rattle.model.specs.Models.LayOut.{after_bar, after_close, begin, check, Frame, Scan, step}
use Rattle.model.specs.Models.Tokens.{a_bar, a_close, a_letter, an_open, Token}
use Rattle.tokens.specs.Scans.{Behind, Sane}

behind_more : (p : ℕ) (st : List Frame) → Behind p st → Behind (suc p) st
behind_more p [] B = tt
behind_more p (f ∷ st) B = (omega (arith, B.0), omega (arith, B.1), omega (arith, B.2), behind_more p st B.3)

cond_le : (b : Bool) (x y z : ℕ) → x ≤ z → y ≤ z → cond b x y ≤ z
cond_le true x y z h k = h
cond_le false x y z h k = k

pub sane_begin : Sane begin
sane_begin = record { behind = tt; shallow = omega arith }

pub sane_step : (y : Token) (q : Scan) → Sane q → T (check y q) → Sane (step y q)
sane_step (a_letter c r) q S t = record { behind = behind_more q.position q.stack S.behind; shallow = S.shallow }
sane_step an_open q S t = record {
  behind = (omega arith, omega arith, le_refl (suc q.position), behind_more q.position q.stack S.behind);
  shallow = ltb→lt (length q.stack) 8 t;
}
sane_step a_bar q S t = go q.stack S.behind S.shallow
  where
    go : (st : List Frame) → Behind q.position st → length st ≤ 8 → Sane (after_bar q.position q.can_be_empty st)
    go [] B l = record { behind = tt; shallow = omega arith }
    go (f ∷ st) B l = record {
      behind = (
        omega (arith, B.0),
        cond_le f.barred f.first_end q.position (suc q.position) (omega (arith, B.1)) (omega arith),
        le_refl (suc q.position),
        behind_more q.position st B.3,
      );
      shallow = l;
    }
sane_step (a_close m) q S t = go q.stack S.behind S.shallow
  where
    go : (st : List Frame) → Behind q.position st → length st ≤ 8 → Sane (after_close m q.position q.can_be_empty st)
    go [] B l = record { behind = tt; shallow = omega arith }
    go (f ∷ st) B l = record { behind = behind_more q.position st B.3; shallow = omega arith }
