-- What the code's tokens and scans stand for in the model, the numbers and the rows of words that stand for tokens, and what the functions promise.
pub mod Tokens
pub mod Kinds
pub mod Rows
pub mod Scans
