-- Lay out as the loop goes: what is painted and what is still to come make the whole.
use mathlib.Core.Path.{◌≡◌, sym, ap, ap₂, ◌∙◌}
use mathlib.Core.List.{List}
use Prim.Native.Nat.{ℕ, ◌+◌, ◌≤◌, ◌<◌}
use lib.ListN.{get_or}
use Rattle.model.specs.Models.LayOut.{begin, step, strokes, Plane}
use Rattle.model.specs.Models.LayOut as model
use Rattle.model.specs.Models.Tokens as tokens
use Rattle.tokens.specs.Scans.{Known, scan_of}
use Rattle.tokens_masks.specs.Tables.{blank, paint_all, paint_plane, Table}
use Rattle.tokens_masks.specs.Tapes.{tokens_of}
use Rattle.tokens.specs.Kinds.{read_kind}
use Rattle.tokens.specs.Tokens.{token_of}
use Rattle.tokens_masks.specs.declared.Tape.{Tape}
use Rattle.tokens.specs.declared.token.Token.{Token}
use Rattle.tokens_masks.proofs.Along.{Along, from, from_cons, from_end}

abbrev pub Painting : Tape → Known → ℕ → Plane → Table → Type 0
Painting t q i w a = paint_all (tokens_of t) begin w blank ≡ paint_all (from t i) (scan_of q) w a

pub painting_begin : (t : Tape) (q : Known) (w : Plane) (a : Table) → scan_of q ≡ begin → a ≡ blank → Painting t q 0 w a
painting_begin t q w a e b = sym (ap₂ (λ (z : model.Scan) (x : Table). paint_all (tokens_of t) z w x) e b)

module _ (t : Tape) (q : Known) (i : ℕ) (A : Along t q i) (w : Plane) (a : Table) (P : Painting t q i w a) where
  pub painting_step : (y : Token) → i < t.length → y ≡ read_kind (get_or t.kinds i 0) → (r : Known) → scan_of r ≡ step (token_of y) (scan_of q)
      → (b : Table) → b ≡ paint_plane w (strokes (token_of y) (scan_of q)) a → Painting t r (i + 1) w b
  painting_step y h e r s b p =
      P ∙ ap (λ (l : List tokens.Token). paint_all l (scan_of q) w a) (from_cons t q i A y h e)
      ∙ sym (ap₂ (λ (z : model.Scan) (x : Table). paint_all (from t (i + 1)) z w x) s p)

  pub painting_end : t.length ≤ i → paint_all (tokens_of t) begin w blank ≡ a
  painting_end h = P ∙ ap (λ (l : List tokens.Token). paint_all l (scan_of q) w a) (from_end t q i A h)
