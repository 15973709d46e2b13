-- THE IMAGE OF A TREE HAS THE TREE'S PLACES: its shape says the tree's states and depth, and its length is what these ask.
use mathlib.Core.Path.{◌≡◌, refl, sym, ap, ◌∙◌, subst}
use mathlib.Core.List.{List}
use Prim.Native.Nat.{ℕ, ◌≤◌}
use Rattle.model.specs.Answers.{ImageOf}
use Rattle.model.specs.Edges.{depth, states}
use Rattle.model.specs.Image.{width}
use Rattle.model.specs.Models.Sections.{state_word}
use Rattle.model.specs.Tree.{Tree}
use Rattle.model.proofs.Ends.Run.{letter_set, loop_set}
use Rattle.model.proofs.Image.OfEdges.{image_is}
use Rattle.model.proofs.Image.Sections.{length_assembled}
use Rattle.model.proofs.Image.Sets.{arc_image, tree_set}
use Rattle.model.proofs.Language.Arcs.{arcs}
use Rattle.model.proofs.Language.Languages.{two_states}
use Rattle.model.proofs.Laws.Trees.{NonEmpty}
use Rattle.model.proofs.Reading.WellFormed.{rule_well}
use Rattle.image_sections.specs.Sections.{Placed, sections_of}

arc_placed : (t : Tree) → NonEmpty t → states t ≤ 512 → depth t ≤ 8 → Placed (arc_image t) (sections_of (states t) (depth t))
arc_placed t f h k = record {
  own = refl;
  some = two_states t f;
  few = h;
  shallow = k;
  long = length_assembled (states t) (width (states t)) (depth t) (letter_set (arcs t 0 0)) (loop_set (arcs t 0 0)) (tree_set t);
}

module _ (ws : List ℕ) (t : Tree) (I : ImageOf ws t) where
  -- they are the image by the arcs
  pub as_arcs : ws ≡ arc_image t
  as_arcs = I.laid ∙ image_is t

  -- the number of states that they show is the tree's
  pub states_is : state_word ws ≡ states t
  states_is = ap state_word as_arcs

  pub image_placed : Placed ws (sections_of (states t) (depth t))
  image_placed = subst (λ (z : List ℕ). Placed z (sections_of (states t) (depth t))) (sym as_arcs) (arc_placed t (rule_well I.is_rule).full I.few I.shallow)
