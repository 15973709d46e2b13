-- What the run computes for words that are an image is what document 01 says.
-- Carry shows that the masks of work hold the tree's sets; Live and Ends are the theorems on the live states and on the ends of a text, Stretch that on a
-- stretch from the states of a mask.
pub mod Carry
pub mod Live
pub mod Ends
pub mod Stretch
