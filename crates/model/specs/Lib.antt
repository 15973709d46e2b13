-- DOCUMENT 01 AS DEFINITIONS, in the document's order. These files are what a reader has to believe; everything else is proved.
pub mod Lists
pub mod Bits
pub mod Bytes
pub mod Tree
pub mod Grammar
pub mod Writing
pub mod Edges
pub mod Live
pub mod Ends
pub mod Image
pub mod Place
pub mod Answers
-- Change requests: the watch (Wish 1), spellings (Wish 9), images from before the dot (Wish 4); a rule's place (Wish 2) stands before the answers,
-- which have it.
pub mod Watch
pub mod Spelling
pub mod Before
-- The worked examples, every one proved.
pub mod Worked
-- Models: what the code computes. The theorems in proofs/ tie each to the definitions above.
pub mod Models
