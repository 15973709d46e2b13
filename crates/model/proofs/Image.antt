-- The image. `Decided` has the results: trees with equal images are equal; for any words it is decided whether they are an image, and of which
-- tree; the run on such words gives the tree's ends. `Compare` has the comparison as code makes it. Below, in the order in which they are proved.
pub mod Decided
pub mod Compare
-- A tree and its tokens determine each other, and the masks' bits show the tokens.
pub mod Unions
pub mod Tokens
pub mod TokenWriting
pub mod Groups
pub mod Between
pub mod Shown
pub mod Classes
-- Lay out marks for a tree's tokens the sets of the tree's masks, so what is laid out is the tree's image.
pub mod Scan
pub mod ArcTests
pub mod Marks
pub mod LayOut
pub mod Sets
pub mod Places
pub mod Within
pub mod Depth
pub mod Rows
pub mod Laid
pub mod OfEdges
-- Which rows of tokens are a tree's, and which trees are a rule's.
pub mod Valid
pub mod WellFormed
-- Taking a tree's image apart gives the tree's tokens.
pub mod Address
pub mod Sections
pub mod Depths
pub mod Tape
-- So the verdict on words is right, and so is the comparison section by section.
pub mod Verdict
pub mod SameBits
pub mod LetterPlaces
pub mod Rebuild
