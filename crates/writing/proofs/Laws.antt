-- What the proofs of the functions cite.
-- Own says how the loop over a tape finds each union's own mark; Tokens how long a token's text can be, Ranges a row of them;
-- Plain that all of it is the tree's writing.
pub mod Own
pub mod Tokens
pub mod Ranges
pub mod Plain
pub mod Answer
