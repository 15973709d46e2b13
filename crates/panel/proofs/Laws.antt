-- Given: what the number given to C tells. Counted: an answer that is no count, packed as one. Build, ReadBack, Match, Watch, Spelling: their counts fit.
pub mod Build
pub mod Given
pub mod Counted
pub mod Match
pub mod ReadBack
pub mod Watch
pub mod Spelling
