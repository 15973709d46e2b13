-- What the proofs of the functions cite.
-- Rows is a row made of masks, word by word, and its bits; Address where the masks lie; Apart the tape that they show; Answers what is said of words with a header.
pub mod Rows
pub mod Address
pub mod Apart
pub mod Answers
