-- Work: what the parts of read back write.
pub mod Work
