-- `OfTree` and `Told` have the results: the tables of a tree's tape in document 01's terms, and which tapes are a tree's. `Painted` has the same for any
-- tape that is a tree's, by its tokens, and `FirstWords` what of a row goes into an image. The others in the order in which they are proved.
pub mod OfTree
pub mod Told
pub mod Painted
pub mod FirstWords
-- The code's tokens, scans and strokes are the model's.
pub mod Tokens
pub mod Strokes
pub mod Within
-- Masks in a row of words, and the tables that they are.
pub mod InWords
-- The loop over a tape, as it goes.
pub mod Along
pub mod Reaching
pub mod Painting
pub mod Scanning
-- Two tables made one, and propagate's masks joined word by word.
pub mod Joins
pub mod Joining
-- The bits of a table after strokes.
pub mod TableBits
-- The tokens of a tape and those of a tree; how deep lay out marks.
pub mod Bare
pub mod Deep
