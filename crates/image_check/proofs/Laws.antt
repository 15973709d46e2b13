-- What the proofs of the functions cite.
-- Compare is how the loops compare a section, and Laid that they compare it with what is laid out for the tape; Agree that the comparison is the model's;
-- Verdict that the check decides; Answers what it says at each way out; Found what a caller then knows.
pub mod Compare
pub mod Laid
pub mod Agree
pub mod Verdict
pub mod Answers
pub mod Found
