-- Sections: the places as one record, and words that have them. Header: what the reader of the header tests.
pub mod Sections
pub mod Header
