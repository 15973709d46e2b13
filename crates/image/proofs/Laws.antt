-- What the proofs of the functions cite.
-- Letters is one more state in a byte's mask, States the same in the masks of all bytes where they stand, Loops the repeats' masks from them; TokenWords
-- what a token's words tell of its class, Tapes that the kinds are the tree's tape; OfSets that what is stored is the image, Answers what store says
-- of it. Stores, Parts, Lengths, Planes and Whole: words, parts, masks and sections written one after another.
pub mod Letters
pub mod States
pub mod Loops
pub mod TokenWords
pub mod Tapes
pub mod OfSets
pub mod Answers
pub mod Stores
pub mod Parts
pub mod Lengths
pub mod Planes
pub mod Whole
