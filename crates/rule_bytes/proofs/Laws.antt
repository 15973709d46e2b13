-- What the proofs of the functions cite, and the readers of letters and signs.
-- Table turns what the checker computes for all bytes into a law for each. Places says how a model reads at a place of the rule, Binds one reader after
-- another, Progress that the place moves on, and Answers what a reader's answer tells of its place.
pub mod Table
pub mod Places
pub mod Binds
pub mod Progress
pub mod Answers
