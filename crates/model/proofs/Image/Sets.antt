-- The sets of states that a tree's masks hold, by its arcs, and the image assembled from them.
use mathlib.Core.Bool.{Bool}
use mathlib.Core.List.{List}
use Prim.Native.Nat.{ℕ, suc}
use Rattle.model.specs.Lists.{any}
use Rattle.model.specs.Tree.{Seq}
use Rattle.model.specs.Edges.{depth, seq_end}
use Rattle.model.specs.Image.{width}
use Rattle.model.specs.Models.LayOut.{assemble, back-source, back-target, entering, gather-block, gather-source, gather-target, leaving, letter-place, loop_place, scatter-block, scatter-source, scatter-target, Plane}
use Rattle.model.proofs.Ends.Run.{letter_set, loop_set}
use Rattle.model.proofs.Image.Marks.{on}
use Rattle.model.proofs.Language.Arcs.{arcs}
use Rattle.model.proofs.Words.Chains.{propagates_of}
use Rattle.model.proofs.Words.Forks.{forks_of}
use Rattle.model.proofs.Words.Gather.{gather_block_of, gather_source_of, gather_target_of}
use Rattle.model.proofs.Words.Propagate.{enters_of, leaves_of}
use Rattle.model.proofs.Words.Rounds.{return_source, return_target}
use Rattle.model.proofs.Words.Scatter.{scatter_block_of, scatter_source_of, scatter_target_of}

abbrev pub tree_set : Seq → Plane → ℕ → ℕ → Bool
tree_set s letter-place k x = any (on letter-place k x) (arcs s 0 0)
tree_set s loop_place k x = any (on loop_place k x) (arcs s 0 0)
tree_set s scatter-block k x = scatter_block_of (forks_of k (arcs s 0 0)) x
tree_set s scatter-source k x = scatter_source_of (forks_of k (arcs s 0 0)) x
tree_set s scatter-target k x = scatter_target_of (forks_of k (arcs s 0 0)) x
tree_set s gather-block k x = gather_block_of (forks_of k (arcs s 0 0)) x
tree_set s gather-source k x = gather_source_of (forks_of k (arcs s 0 0)) x
tree_set s gather-target k x = gather_target_of (forks_of k (arcs s 0 0)) x
tree_set s leaving k x = leaves_of (propagates_of k (arcs s 0 0)) x
tree_set s entering k x = enters_of (propagates_of k (arcs s 0 0)) x
tree_set s back-source k x = return_source s k x
tree_set s back-target k x = return_target s k x

abbrev pub arc_image : Seq → List ℕ
arc_image s = assemble (suc (seq_end s 0)) (width (suc (seq_end s 0))) (depth s) (letter_set (arcs s 0 0)) (loop_set (arcs s 0 0)) (tree_set s)
