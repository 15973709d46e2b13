-- What the proofs of the functions cite, and callers.
-- Texts is one text written after another; Bytes says how a byte and a run are written; Runs what is left of a class's runs while they are written;
-- Words what the words of a class say of its bytes; Classes which of its three writings a class has; Bounds how long a class's writing is.
pub mod Texts
pub mod Bytes
pub mod Runs
pub mod Words
pub mod Classes
pub mod Bounds
