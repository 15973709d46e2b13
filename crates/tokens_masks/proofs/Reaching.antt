-- How deep a tape's tokens reach, as the loop goes: the largest depth met, or what the tokens still to come reach.
use mathlib.Core.Path.{◌≡◌, refl, sym, ap, ◌∙◌}
use mathlib.Core.List.{List, ◌∷◌}
use Prim.Native.Nat.{ℕ, ◌+◌, ◌≤◌, ◌<◌, max}
use native.Mathlib.Omega.{arith}
use lib.ListN.{get_or, length}
use Rattle.model.specs.Models.LayOut.{begin, reach, step}
use Rattle.model.specs.Models.LayOut as model
use Rattle.model.specs.Models.Tokens.{a_bar, a_close, a_letter, an_open}
use Rattle.model.specs.Models.Tokens as tokens
use Rattle.tokens.specs.Scans.{Known, scan_of}
use Rattle.tokens_masks.specs.Tapes.{deeper_by, tokens_of}
use Rattle.tokens.specs.Kinds.{read_kind}
use Rattle.tokens.specs.Tokens.{token_of}
use Rattle.tokens_masks.specs.declared.Tape.{Tape}
use Rattle.tokens.specs.declared.token.Token.{Token}
use Rattle.tokens_masks.proofs.Along.{Along, from, from_cons, from_end}
use Rattle.tokens.proofs.Scans.{length_stack}

abbrev pub Reaching : Tape → Known → ℕ → ℕ → Type 0
Reaching t q i deepest = reach (tokens_of t) begin ≡ max deepest (reach (from t i) (scan_of q))

pub reaching_begin : (t : Tape) (q : Known) → scan_of q ≡ begin → Reaching t q 0 0
reaching_begin t q e = let r = ap (reach (tokens_of t)) (sym e) in omega arith

reach_cons : (deepest : ℕ) (y : tokens.Token) (l : List tokens.Token) (q : model.Scan)
    → max deepest (reach (y ∷ l) q) ≡ max (deeper_by deepest (length q.stack) y) (reach l (step y q))
reach_cons deepest (a_letter c r) l q = refl
reach_cons deepest an_open l q = omega arith
reach_cons deepest a_bar l q = refl
reach_cons deepest (a_close m) l q = refl

module _ (t : Tape) (q : Known) (i : ℕ) (A : Along t q i) (deepest : ℕ) (R : Reaching t q i deepest) where
  pub reaching_step : (y : Token) → i < t.length → y ≡ read_kind (get_or t.kinds i 0) → (r : Known) → scan_of r ≡ step (token_of y) (scan_of q)
      → (d : ℕ) → d ≡ deeper_by deepest q.depth (token_of y) → Reaching t r (i + 1) d
  reaching_step y h e r s d g =
      R ∙ ap (λ (l : List tokens.Token). max deepest (reach l (scan_of q))) (from_cons t q i A y h e)
      ∙ reach_cons deepest (token_of y) (from t (i + 1)) (scan_of q)
      ∙ ap (λ (n : ℕ). max n (reach (from t (i + 1)) (step (token_of y) (scan_of q))))
      (ap (λ (n : ℕ). deeper_by deepest n (token_of y)) (length_stack q.frames q.depth) ∙ sym g)
      ∙ ap (λ (z : model.Scan). max d (reach (from t (i + 1)) z)) (sym s)

  pub reaching_end : t.length ≤ i → reach (tokens_of t) begin ≡ deepest
  reaching_end h = let r = ap (λ (l : List tokens.Token). reach l (scan_of q)) (from_end t q i A h) in omega (arith, R)
