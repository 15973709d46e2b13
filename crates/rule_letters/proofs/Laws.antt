-- What the proofs of the functions cite, and callers.
-- Classes says what four words make. Escapes and Letters say what the models make of a list by its first byte; Progress that each member takes a byte;
-- Members is the loop over a class. Placed says where the readers stop.
pub mod Classes
pub mod Escapes
pub mod Letters
pub mod Progress
pub mod Members
pub mod Placed
