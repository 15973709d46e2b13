-- WHAT STORE SAYS, for each of its answers: where the tape is told to be a tree's, that tree has the depth told, so the words written are as many as an
-- image's and, for the tokens of a rule's tree, are its image; where it is not, a rule's tree with those tokens is deeper than 8.
use mathlib.Core.Path.{◌≡◌, refl, sym, ap, ap₂, ◌∙◌, subst}
use mathlib.Core.Logic.{◌⊎◌, inl, inr}
use mathlib.Core.List.{List}
use Prim.Native.Nat.{ℕ, ◌+◌, ◌≤◌, ◌<◌}
use native.Mathlib.Omega.{arith}
use lib.ListN.{length}
use lib.Seq.{sets}
use Rattle.model.specs.Answers.{gives, refused}
use Rattle.model.specs.Edges.{depth, states}
use Rattle.model.specs.Image.{image}
use Rattle.model.specs.Tree as tree
use Rattle.model.proofs.Image.Tokens.{length_tokens}
use Rattle.model.proofs.Laws.Bool.{le_or_lt}
use Rattle.model.proofs.Laws.Stores.{sets_fit}
use Rattle.image_sections.specs.Sections.{sections_of}
use Rattle.image_sections.specs.declared.Sections.{Sections}
use Rattle.tokens_masks.specs.Says.{OnTapeSays, TreeOnTape}
use Rattle.std.specs.Prelude.{None, Option, Some}
use Rattle.tokens_masks.specs.declared.Tape.{Tape}
use Rattle.image.specs.Says.{no_room, OfRule, stored, StoreSays, TokensOf, too_deep, TreeSays}
use Rattle.image.specs.Work.{image_words, KindsAre}
use Rattle.image.proofs.Laws.Tapes.{depth_is, on-tape, states_are, tape-of}
use Rattle.image.proofs.Laws.OfSets.{image_stored, length_image}

-- a rule's tokens are as many as its tree's states, but for one
pub few : (row : List ℕ) (n : ℕ) → OfRule row n → n + 1 ≤ 512
few row n R = omega (arith, R.1.long, R.1.few, length_tokens R.0)

-- the depth told is a tree's within depth 8
pub shallow : {tape : Tape} {laid : Option ℕ} {d : ℕ} → OnTapeSays tape laid → laid ≡ Some d → d ≤ 8
shallow {d = d} S told =
    let there = S.some_tree d told in
    let says = S.of_tree there.0 there.1 in
    let e : d ≡ depth there.0 = cc in
    omega (arith, e, there.1.shallow)

-- the tape of the first n tokens of a row, and what it was told to be
pub record Taped (row : List ℕ) (n : ℕ) (tape : Tape) (laid : Option ℕ) : Type 0 where
  pub long : tape.length ≡ n
  pub kinds : KindsAre row tape.kinds
  pub room : length tape.kinds ≡ 512
  pub says : OnTapeSays tape laid

pub taped : (row : List ℕ) (tape : Tape) {n : ℕ} {laid : Option ℕ} → tape.length ≡ n → KindsAre row tape.kinds
    → length tape.kinds ≡ 512 → OnTapeSays tape laid → Taped row n tape laid
taped row tape l k e S = record { long = l; kinds = k; room = e; says = S }

module _ {row : List ℕ} {n : ℕ} {tape : Tape} {laid : Option ℕ} (T : Taped row n tape laid) where
  all_tokens : (t : tree.Tree) → TokensOf t row n → TokensOf t row tape.length
  all_tokens t R = subst (TokensOf t row) (sym T.long) R

  shallow_on_tape : (t : tree.Tree) → TokensOf t row n → depth t ≤ 8 → TreeOnTape t tape
  shallow_on_tape t R h = on-tape row tape T.kinds T.room t (all_tokens t R) h

  -- NO TREE
  pub says_no_tree : (before : List ℕ) → laid ≡ None → StoreSays row n before (refused 4 before)
  says_no_tree before e t R = go (le_or_lt (depth t) 8)
    where
      go : (depth t ≤ 8) ⊎ (8 < depth t) → TreeSays t before (refused 4 before)
      go (inl h) = let told = T.says.of_tree t (shallow_on_tape t R h) in cc
      go (inr h) = too_deep h refl

  -- ---- a tree's tape, of the depth told
  module _ {d : ℕ} (told : laid ≡ Some d) where
    abbrev there : (s : tree.Tree) × TreeOnTape s tape
    there = T.says.some_tree d told

    depth_told : (t : tree.Tree) → TreeOnTape t tape → depth t ≡ d
    depth_told t P = let says = T.says.of_tree t P in cc

    states_told : (t : tree.Tree) → TreeOnTape t tape → n + 1 ≡ states t
    states_told t P = omega (arith, T.long, states_are P)

    -- a rule's tree with those tokens is as deep as the tree that is there
    of_rule : (t : tree.Tree) → TokensOf t row n → TreeOnTape t tape
    of_rule t R =
        let P = tape-of row tape T.kinds T.room t (all_tokens t R) in
        shallow_on_tape t R (omega (arith, depth_is P, depth_is there.1.tape, there.1.shallow))

    module _ (before : List ℕ) {p : Sections} (places : p ≡ sections_of (n + 1) d) where
      places_are : (t : tree.Tree) → TreeOnTape t tape → p ≡ sections_of (states t) (depth t)
      places_are t P = places ∙ ap₂ sections_of (states_told t P) (sym (depth_told t P))

      size_is : (t : tree.Tree) → TreeOnTape t tape → p.length ≡ length (image t)
      size_is t P = ap (λ (q : Sections). q.length) (places_are t P) ∙ sym (length_image t)

      words_as : (t : tree.Tree) → TreeOnTape t tape → image_words p row tape ≡ image_words (sections_of (states t) (depth t)) row tape
      words_as t P = ap (λ (q : Sections). image_words q row tape) (places_are t P)

      -- NO ROOM
      pub says_no_room : length before < p.length → StoreSays row n before (refused 5 before)
      says_no_room h t R = let P = of_rule t R in no_room P.shallow (omega (arith, size_is t P)) refl

      -- DONE
      module _ {after : List ℕ} (fits : p.length ≤ length before) (is : after ≡ sets before 0 (image_words p row tape)) where
        pub says_stored : StoreSays row n before (gives p.length after)
        says_stored t R =
            let P = of_rule t R in
            let e = size_is t P in
            let w = is ∙ ap (sets before 0) (words_as t P ∙ image_stored row tape t P (all_tokens t R)) ∙ sets_fit before (image t) in
            stored P.shallow (omega (arith, e)) (λ i. gives (e i) (w i))
