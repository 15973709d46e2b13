-- Ends: the run over a text, on sets of states, and its ends: after a text the accepting state is live exactly if some stretch stops there that the tree
-- spells (`ends_are`), and so for each place of a text (`end_is`).
pub mod Run
pub mod Stops
