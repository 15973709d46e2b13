-- Lines: what lines and numbers are, and a text in lent bytes. Work: what the functions that put them there say.
pub mod Lines
pub mod Work
