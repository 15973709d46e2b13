-- Says: what the public functions promise. The others: what is painted into a table and into lent words, and what a tape is.
pub mod Tables
pub mod Masks
pub mod Joins
pub mod Tapes
pub mod Says
