-- Language: the texts that lead to a state, by the arcs and by what the tree spells. The accepting state is led to exactly by the texts that end with a
-- stretch that the tree spells (`accepts`, then `stretch`).
-- Read in this order: the tree's edges as arcs; the languages of texts read so far; a value for each state, handed on along the tree; the
-- stretches that a tree spells; the texts of a state in both ways, each way into the other, and so the accepting state; what can spell the empty text.
pub mod Arcs
pub mod Parts
pub mod Languages
pub mod Values
pub mod Stretches
pub mod Texts
pub mod Carried
pub mod Led
pub mod Accepts
pub mod Empty
