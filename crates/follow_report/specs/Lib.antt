-- Follow: what the program `follow` writes. Work: what the parts of a call say.
pub mod Follow
pub mod Work
