-- The code's tokens and scans are the model's, and every scan that the code comes to is sane; kinds and rows of words stand for the tokens that they
-- are made of.
pub mod Numbers
pub mod Rows
pub mod Scans
pub mod Sane
