-- What the proofs of the functions cite. Rows: the rows of the two tables.
pub mod Rows
