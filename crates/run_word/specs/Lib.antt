-- Ends: what is said of the ends found. One: the masks of a rule of one word. Stretch: the run over a stretch on them.
pub mod Ends
pub mod One
pub mod Stretch
