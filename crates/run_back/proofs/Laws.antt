-- Ahead: the first source among some places. Words: two words that hold it for every place. Adds: when the back edges of a word add nothing.
pub mod Ahead
pub mod Words
pub mod Adds
