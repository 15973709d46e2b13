-- A loop over a tape, as it goes: what the scan before token i finds of the tokens from i on is what the whole tape is.
use mathlib.Core.Path.{◌≡◌, sym, ap, ap₂, ◌∙◌, subst}
use mathlib.Core.Bool.{Bool, true, false, ◌&&◌}
use mathlib.Core.List.{List, [], ◌∷◌}
use Prim.Native.Nat.{ℕ, suc, ◌+◌, ◌≤◌, ◌<◌}
use native.Mathlib.Numerals.{add-one}
use native.Mathlib.Omega.{arith}
use borrow.Author.Tests.{le-leb, lt-leb}
use lib.Dec.{T}
use lib.ListN.{drop, drop_of_length-le, get_or, length, take}
use lib.Seq.{drop-cons, get_or-take, length-take-le}
use Rattle.model.specs.Models.LayOut.{begin, check, step, valid}
use Rattle.model.specs.Models.LayOut as model
use Rattle.model.specs.Models.Tokens as tokens
use Rattle.model.proofs.Image.LetterPlaces.{position_step}
use Rattle.tokens.specs.Scans.{is_ended, Known, Ready, Sane, scan_of}
use Rattle.tokens_masks.specs.Tapes.{is_tree, read_kinds, tokens_of}
use Rattle.tokens.specs.Kinds.{read_kind}
use Rattle.tokens.specs.Tokens.{token_of}
use Rattle.tokens_masks.specs.declared.Tape.{Tape}
use Rattle.tokens.specs.declared.token.Token.{Token}
use Rattle.tokens.proofs.Sane.{sane_begin, sane_step}
use Rattle.tokens.proofs.Scans.{length_stack}

abbrev pub tape_of : List ℕ → ℕ → Tape
tape_of kinds n = record { kinds = kinds; length = n }

-- the tokens from i on
abbrev pub from : Tape → ℕ → List tokens.Token
from t i = read_kinds (drop i (take t.length t.kinds))

-- the scan q stands before token i of the tape t
pub record Along (t : Tape) (q : Known) (i : ℕ) : Type 0 where
  pub whole : length t.kinds ≡ 512
  pub short : t.length ≤ 511
  pub inside : i ≤ t.length
  pub sane : Sane (scan_of q)
  pub at : q.position ≡ i
  pub ahead : valid (tokens_of t) begin ≡ valid (from t i) (scan_of q)

-- ---- a tape that is too long, and the start of any other
pub too_long : (t : Tape) → 511 < t.length → is_tree t ≡ false
too_long t h = ap (λ (b : Bool). b && valid (tokens_of t) begin) (lt-leb t.length 511 h)

pub along_begin : (t : Tape) (q : Known) → length t.kinds ≡ 512 → t.length ≤ 511 → scan_of q ≡ begin → Along t q 0
along_begin t q w h e = record {
  whole = w;
  short = h;
  inside = omega arith;
  sane = subst Sane (sym e) sane_begin;
  at = ap (λ (z : model.Scan). z.position) e;
  ahead = ap (valid (tokens_of t)) (sym e);
}

module _ (t : Tape) (q : Known) (i : ℕ) (A : Along t q i) where
  tape_long : length (take t.length t.kinds) ≡ t.length
  tape_long = length-take-le t.length t.kinds (omega (arith, A.whole, A.short))

  valid_is : is_tree t ≡ valid (tokens_of t) begin
  valid_is = ap (λ (b : Bool). b && valid (tokens_of t) begin) (le-leb t.length 511 A.short)

  pub along_depth : q.depth ≤ 8
  along_depth = omega (arith, A.sane.shallow, length_stack q.frames q.depth)

  pub along_ready : (y : Token) → i < t.length → check (token_of y) (scan_of q) ≡ true → Ready q y
  along_ready y h c = record { sane = A.sane; fits = subst T (sym c) tt; below = omega (arith, A.at, A.short) }

  -- ---- at the end
  pub from_end : t.length ≤ i → from t i ≡ []
  from_end h = ap read_kinds (drop_of_length-le (take t.length t.kinds) {i = i} (omega (arith, tape_long)))

  pub along_end : t.length ≤ i → is_tree t ≡ is_ended q
  along_end h = valid_is ∙ A.ahead ∙ ap (λ (l : List tokens.Token). valid l (scan_of q)) (from_end h)

  -- ---- at the token y
  module _ (y : Token) (h : i < t.length) (e : y ≡ read_kind (get_or t.kinds i 0)) where
    pub from_cons : from t i ≡ token_of y ∷ from t (i + 1)
    from_cons =
        ap read_kinds (drop-cons (take t.length t.kinds) i 0 (omega (arith, tape_long)))
        ∙ ap₂ (λ (z : Token) (n : ℕ). token_of z ∷ from t n) (ap read_kind (get_or-take t.length t.kinds i 0 h) ∙ sym e) (sym (add-one i))

    ahead_cons : valid (tokens_of t) begin ≡ (check (token_of y) (scan_of q) && valid (from t (i + 1)) (step (token_of y) (scan_of q)))
    ahead_cons = A.ahead ∙ ap (λ (l : List tokens.Token). valid l (scan_of q)) from_cons

    pub along_misfit : check (token_of y) (scan_of q) ≡ false → is_tree t ≡ false
    along_misfit f = valid_is ∙ ahead_cons ∙ ap (λ (b : Bool). b && valid (from t (i + 1)) (step (token_of y) (scan_of q))) f

    pub along_step : (r : Known) → check (token_of y) (scan_of q) ≡ true → scan_of r ≡ step (token_of y) (scan_of q) → Along t r (i + 1)
    along_step r c s = record {
      whole = A.whole;
      short = A.short;
      inside = omega arith;
      sane = subst Sane (sym s) (sane_step (token_of y) (scan_of q) A.sane (subst T (sym c) tt));
      at = ap (λ (z : model.Scan). z.position) s ∙ position_step (token_of y) (scan_of q) ∙ ap suc A.at ∙ sym (add-one i);
      ahead = ahead_cons ∙ ap (λ (b : Bool). b && valid (from t (i + 1)) (step (token_of y) (scan_of q))) c ∙ ap (valid (from t (i + 1))) (sym s);
    }
