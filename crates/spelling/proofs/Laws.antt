-- What the proofs of the functions cite. Follow: one turn of the checker's loop. Check: what its tests come to.
pub mod Follow
pub mod Check
