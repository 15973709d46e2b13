-- WHAT A TAPE IS TOLD TO BE: a row of tokens that passes the scan is the tokens of a tree, and with a class for each letter that tree is a rule's.
use mathlib.Core.Path.{◌≡◌, refl, sym, ap, ap₂, ◌∙◌, subst}
use mathlib.Core.List.{List, [], ◌∷◌}
use Prim.Native.Nat.{ℕ, suc, ◌^◌, ◌≤◌, ◌<◌}
use native.Mathlib.Omega.{arith}
use lib.Dec.{T, leb, leb→le}
use lib.ListN.{length, length-take, take}
use lib.Pow.{pow_pos}
use Rattle.model.specs.Models.LayOut.{begin, reach, valid}
use Rattle.model.specs.Models.Tokens.{a_bar, a_close, a_letter, an_open, Token}
use Rattle.model.specs.Tree as tree
use Rattle.model.proofs.Image.Classes.{AllFine, Fine}
use Rattle.model.proofs.Image.Depth.{reach_is, valid_reach}
use Rattle.model.proofs.Image.Tokens.{length_tokens}
use Rattle.model.proofs.Image.Valid.{TreeOf, valid_tree}
use Rattle.model.proofs.Image.WellFormed as image
use Rattle.model.proofs.Laws.Bool.{and_split}
use Rattle.model.proofs.Reading.Written as reading
use Rattle.tokens_masks.specs.Says.{OnTapeSays, TreeOnTape}
use Rattle.tokens.specs.Tokens.{bare, token_of}
use Rattle.tokens_masks.specs.Tapes.{bares, is_tree, on_tape, read_kinds, tokens_of}
use Rattle.tokens.specs.Kinds.{read_kind}
use Rattle.tokens_masks.specs.declared.Tape.{Tape}
use Rattle.tokens.specs.declared.token.Token as code
use Rattle.tokens.specs.declared.token.Token.TheVariants.{Bar, Close, Letter, Open}
use Rattle.tokens_masks.proofs.Bare.{bares_length, bares_valid}
use Rattle.tokens_masks.proofs.OfTree.{on_tape_is}
use Rattle.tokens_masks.proofs.Scanning.{tree_told}
use Rattle.tokens_masks.proofs.Tokens.{read_length}

-- ---- any class that holds a byte will do
abbrev classed : Token → Token
classed (a_letter c r) = a_letter 1 r
classed an_open = an_open
classed a_bar = a_bar
classed (a_close m) = a_close m

abbrev all_classed : List Token → List Token
all_classed [] = []
all_classed (y ∷ ys) = classed y ∷ all_classed ys

small : (n : ℕ) → 1 < 2 ^ suc n
small n = omega (arith, pow_pos n)

fine : (y : Token) → Fine (classed y)
fine (a_letter c r) = record { some_byte = omega arith; bytes_only = small 255 }
fine an_open = tt
fine a_bar = tt
fine (a_close m) = tt

all_fine : (l : List Token) → AllFine (all_classed l)
all_fine [] = tt
all_fine (y ∷ ys) = (fine y, all_fine ys)

bare_classed : (y : code.Token) → bare (classed (token_of y)) ≡ token_of y
bare_classed (Letter r) = refl
bare_classed Open = refl
bare_classed Bar = refl
bare_classed (Close m) = refl

bares_classed : (ks : List ℕ) → bares (all_classed (read_kinds ks)) ≡ read_kinds ks
bares_classed [] = refl
bares_classed (k ∷ ks) = ap₂ (λ (z : Token) (m : List Token). z ∷ m) (bare_classed (read_kind k)) (bares_classed ks)

module _ (t : Tape) (room : length t.kinds ≡ 512) (is : T (is_tree t)) where
  abbrev l : List Token
  l = all_classed (tokens_of t)

  bare_l : bares l ≡ tokens_of t
  bare_l = bares_classed (take t.length t.kinds)

  short : t.length ≤ 511
  short = leb→le t.length 511 (and_split (leb t.length 511) (valid (tokens_of t) begin) is).0

  is_valid : T (valid l begin)
  is_valid =
      subst T (sym (ap (λ (m : List Token). valid m begin) bare_l) ∙ bares_valid l begin)
      (and_split (leb t.length 511) (valid (tokens_of t) begin) is).1

  R : TreeOf l
  R = valid_tree l is_valid

  long : t.length ≡ length l
  long =
      omega (arith, sym (bares_length l) ∙ ap length bare_l ∙ read_length (take t.length t.kinds) ∙ length-take t.length t.kinds, short, room)

  tree_there : (s : tree.Tree) × TreeOnTape s t
  tree_there =
      let s = R.tree in
      let e = R.of_tokens in
      let w = (reading.well_formed s).0 ((image.well_formed s).1 (R.begun, R.good, subst AllFine (sym e) (all_fine (tokens_of t)))) in (
        s,
        record {
          rule = w.0;
          is_rule = w.1;
          few = omega (arith, length_tokens s, ap length e, long, short);
          shallow = omega (arith, sym (reach_is s) ∙ ap (λ (m : List Token). reach m begin) e, valid_reach l begin is_valid);
          tape = record { long = long ∙ ap length (sym e); tokens_are = sym (ap bares e ∙ bare_l) };
        },
      )

-- A TAPE IS TOLD TO BE A TREE'S EXACTLY IF IT IS ONE
pub on_tape_says : (t : Tape) → length t.kinds ≡ 512 → OnTapeSays t (on_tape t)
on_tape_says t room = record {
  of_tree = λ s O. on_tape_is s t O;
  some_tree = λ d e. tree_there t room (tree_told (is_tree t) (reach (tokens_of t) begin) d e);
}
