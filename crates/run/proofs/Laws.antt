-- What the proofs of the functions cite.
-- Rows are masks as they lie in words; Passes one turn of the loops over the depths, and one byte; Backs the back edges' masks, and Rounds what they add;
-- Table that the table of work holds the image's masks; Widths that with eight words nothing is lost; One that a rule of one word has the same ends on plain
-- words.
pub mod Rows
pub mod Passes
pub mod Backs
pub mod Rounds
pub mod Table
pub mod Widths
pub mod One
