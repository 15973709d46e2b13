-- What the proofs of the functions cite, and callers: everything over any number of words.
-- Filled is the loop over the words; Take the first of them; Each and Ripple the words of the models, made one by one; Carries one word as the machine makes it; Bits where a
-- bit of a row stands; Same what is known of the test of two rows.
pub mod Filled
pub mod Take
pub mod Each
pub mod Ripple
pub mod Carries
pub mod Bits
pub mod Same
