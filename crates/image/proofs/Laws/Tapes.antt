-- THE TAPE OF A TREE'S ROW OF TOKENS IS THE TREE'S, and the tape alone shows the tree's depth, since depth does not look at classes.
use mathlib.Core.Path.{◌≡◌, refl, sym, ap, ap₂, ◌∙◌}
use mathlib.Core.List.{List, [], ◌∷◌}
use Prim.Native.Nat.{ℕ, suc, ◌≤◌, ◌<◌}
use native.Mathlib.Nat.{le_of_suc-le-suc, not-suc-le-zero, zero-lt-suc}
use native.Mathlib.Omega.{arith}
use lib.ListN.{get_or, length, take}
use Rattle.model.specs.Edges.{depth, states}
use Rattle.model.specs.Models.LayOut.{begin, reach}
use Rattle.model.specs.Models.Tokens.{a_bar, Token, tokens}
use Rattle.model.specs.Tree.{Tree}
use Rattle.model.proofs.Image.Depth.{reach_is}
use Rattle.model.proofs.Image.Tokens.{length_tokens}
use Rattle.tokens.specs.Kinds.{kind_in, kind_of, read_kind}
use Rattle.tokens_masks.specs.Says.{TreeOnTape}
use Rattle.tokens_masks.specs.Tapes.{bares, read_kinds, TapeOf, tokens_of}
use Rattle.tokens.specs.Tokens.{token_of}
use Rattle.tokens_masks.specs.declared.Tape.{Tape}
use Rattle.tokens_masks.proofs.Bare.{bares_reach}
use Rattle.tokens.proofs.Numbers.{kind_small, read-kind}
use Rattle.tokens.proofs.Rows.{kind-at}
use Rattle.image.specs.Says.{TokensOf}
use Rattle.image.specs.Work.{KindsAre}

read-kinds : (ks : List ℕ) (l : List Token) → length l ≤ length ks → ((i : ℕ) → i < length l → get_or ks i 0 ≡ kind_of (get_or l i a_bar))
    → read_kinds (take (length l) ks) ≡ bares l
read-kinds ks [] h k = refl
read-kinds [] (y ∷ ys) h k = absurd (not-suc-le-zero h)
read-kinds (n ∷ ks) (y ∷ ys) h k =
    ap₂ (λ (z : Token) (zs : List Token). z ∷ zs) (ap (λ (m : ℕ). token_of (read_kind m)) (k 0 (zero-lt-suc (length ys))) ∙ read-kind y)
    (read-kinds ks ys (le_of_suc-le-suc h) (λ i l. k (suc i) (omega arith)))

-- ---- the tree's tape
module _ (row : List ℕ) (tape : Tape) (kinds : KindsAre row tape.kinds) (room : length tape.kinds ≡ 512) (t : Tree)
    (O : TokensOf t row tape.length) where
  few_tokens : tape.length ≤ 511
  few_tokens = omega (arith, O.long, length_tokens t, O.few)

  pub tape-of : TapeOf t tape
  tape-of = record {
    long = O.long;
    tokens_are =
        ap (λ (n : ℕ). read_kinds (take n tape.kinds)) O.long
        ∙ read-kinds tape.kinds (tokens t []) (omega (arith, few_tokens, O.long)) (λ i h.
        kinds i (omega (arith, few_tokens, O.long)) ∙ ap kind_in (kind-at (tokens t []) row tape.length O.long O.are i h)
        ∙ kind_small (get_or (tokens t []) i a_bar));
  }

  pub on-tape : depth t ≤ 8 → TreeOnTape t tape
  on-tape h = record { rule = O.rule; is_rule = O.is_rule; few = O.few; shallow = h; tape = tape-of }

-- AS MANY STATES AS TOKENS, and one
pub states_are : {t : Tree} {tape : Tape} → TreeOnTape t tape → suc tape.length ≡ states t
states_are {t} P = ap suc (P.tape.long ∙ length_tokens t)

-- THE DEPTH IS THE TAPE'S
pub depth_is : {t : Tree} {tape : Tape} → TapeOf t tape → depth t ≡ reach (tokens_of tape) begin
depth_is {t} P = sym (ap (λ (l : List Token). reach l begin) P.tokens_are ∙ bares_reach (tokens t []) begin ∙ reach_is t)
