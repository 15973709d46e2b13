-- What the proofs of the functions cite, and callers.
-- Stores says what runs of stores leave, RowWords what tokens' words are, Stands where rows of them stand, Rows which tokens a sequence has. Cycle is
-- the three readers, each way out, and Placed where they stop; Groups alternatives made one item; Whole a rule read to its last byte.
pub mod Stores
pub mod RowWords
pub mod Stands
pub mod Rows
pub mod Cycle
pub mod Placed
pub mod Groups
pub mod Whole
