-- Work: what the parts of the proposer say.
pub mod Work
