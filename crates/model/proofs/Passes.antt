-- Passes: propagate k and gather k-1 for k from d to 1, propagate 0, then scatter k-1 and propagate k for k from 1 to d give, from any set of states,
-- exactly what the edges without a letter reach but for back edges: over any edges that are nested so (`passes_are`), and for a tree's (`tree_passes`).
-- Two such rounds, with the back edges between, give what all of them reach: over any bodies (`rounds_are`), and for a tree's (`tree_rounds`).
pub mod Closure
pub mod Known
pub mod Bodies
pub mod Rounds
pub mod OnTrees
