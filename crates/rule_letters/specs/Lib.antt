-- Answers: what the readers promise. Classes: the bytes of a class, and what is read of it.
pub mod Classes
pub mod Answers
