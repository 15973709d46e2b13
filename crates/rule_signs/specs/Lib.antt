-- Answers: what the readers promise. Repeats: what they read of the numbers in braces.
pub mod Repeats
pub mod Answers
