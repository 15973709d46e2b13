-- What the proofs of the functions cite, and callers.
-- Progress says how far numbers go, Placed where the readers stop.
pub mod Progress
pub mod Placed
