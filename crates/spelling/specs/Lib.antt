-- Work: what the parts of the check say.
pub mod Work
