-- The ends of a text, computed: run the tree's own masks over the first p bytes and look at the accepting state, for each place p.
use mathlib.Core.Logic.{◌↔◌}
use mathlib.Core.Bool.{Bool}
use mathlib.Core.List.{List, []}
use Prim.Native.Nat.{ℕ, ◌≤◌}
use native.Mathlib.Nat.{le_refl}
use lib.Dec.{T}
use lib.ListN.{length, take}
use Rattle.model.specs.Bits.{bit}
use Rattle.model.specs.Tree.{Tree}
use Rattle.model.specs.Edges.{accepting, depth, states}
use Rattle.model.specs.Ends.{End, EndsAre}
use Rattle.model.specs.Image.{width}
use Rattle.model.specs.Models.Run.{run_words}
use Rattle.model.specs.Models.Words.{value}
use Rattle.model.proofs.Definitions.Ends.{end_stops}
use Rattle.model.proofs.Definitions.EndsList.{places_are, places_from}
use Rattle.model.proofs.Ends.Stops.{StopsAt}
use Rattle.model.proofs.Image.Rows.{room}
use Rattle.model.proofs.Language.Languages.{feed}
use Rattle.model.proofs.Words.Full.{Full}
use Rattle.model.proofs.Words.ImageRun.{tree_carry, tree_masks}
use Rattle.model.proofs.Words.Run.{Bytes, bytes_fed, bytes_take, end_words}

abbrev is_end : Tree → List ℕ → ℕ → Bool
is_end t text p = bit (value (run_words (tree_masks (states t) (width (states t)) t) (depth t) (feed [] (take p text)))) (accepting t)

abbrev pub tree_ends : Tree → List ℕ → List ℕ
tree_ends t text = places_from (is_end t text) 0 (length text)

-- THEY ARE THE LIST OF ENDS
pub tree-ends : (t : Tree) → Full t → (text : List ℕ) → Bytes text → EndsAre t text (tree_ends t text)
tree-ends t F text B = places_are t text (is_end t text) is (λ p e. ((end_stops t text p).0 e).0)
  where
    stops : (p : ℕ) → T (is_end t text p) ↔ StopsAt t text p
    stops p = end_words (states t) (width (states t)) t F (tree_masks (states t) (width (states t)) t) (tree_carry (states t) (width (states t)) t (room (states t)) (le_refl (states t))) text p (bytes_fed [] (take p text) tt (bytes_take p text B))

    is : (p : ℕ) → p ≤ length text → T (is_end t text p) ↔ End t text p
    is p l = (λ h. (end_stops t text p).1 (l, (stops p).0 h), λ e. (stops p).1 ((end_stops t text p).0 e).1)
