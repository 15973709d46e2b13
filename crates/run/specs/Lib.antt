-- Work: the masks of work and what the run computes with them. Says: what the public functions say of an image.
pub mod Work
pub mod Says
