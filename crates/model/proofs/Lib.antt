-- THE THEOREMS about the definitions of specs/. Read Definitions, Answers and Examples first: they speak of the definitions themselves.
-- The folders after them prove what those rest on; Laws has what all of them cite.
pub mod Definitions
pub mod Answers
pub mod Watch
pub mod Spelling
pub mod Examples
pub mod Reading
pub mod Language
pub mod Passes
pub mod Words
pub mod Ends
pub mod Image
pub mod Laws
