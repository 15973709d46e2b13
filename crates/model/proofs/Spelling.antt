-- SPELLINGS (Wish 9). `Ends`: a proposal that gets yes exists exactly for an end. `Spells`: it exists from one place to another exactly if the bytes
-- between them are spelled. `Answers`: the tables say something for every input, and settle it. `Decided`: the model computes whether a proposal gets
-- yes, and the latest start. Below them `Leads`: from where bytes lead to the accepting state, and the bytes between two places. For the code `Reach`:
-- what a state reaches, and `Moves`: what a byte enters and what it leaves, on sets of states.
pub mod Ends
pub mod Spells
pub mod Answers
pub mod Decided
pub mod Leads
pub mod Reach
pub mod Moves
