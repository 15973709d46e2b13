-- Back: each state back by one. Reached: what is computed, of all eight words. Image: for words that are an image these are document 01's states. Sets:
-- words that hold a set of the tree's states.
pub mod Back
pub mod Reached
pub mod Image
pub mod Sets
