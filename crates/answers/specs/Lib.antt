-- What the code's answers mean in the documents' tables.
pub mod Answers
