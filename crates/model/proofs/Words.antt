-- Words: over any number of 64-bit words, with carry and borrow handed on, the subtraction gives scatter, the addition gather and the subtraction
-- propagate, for the masks of document 01; so the run on words gives the live states and the ends.
-- Read in this order: the bits of numbers and of sums; the unions and the propagate edges of one depth, which stand in order; each pass on bits,
-- all of them (`passed_is`), and two rounds with the back edges between (`bits_are`); rows of words that hold sets, and the run on them (`step-words`, `run-words`), which uses Ends.
pub mod Ripple
pub mod Bits
pub mod RowBits
pub mod Put
pub mod Lowest
pub mod Runs
pub mod Full
pub mod InOrder
pub mod Forks
pub mod Chains
pub mod Scatter
pub mod Gather
pub mod Propagate
pub mod ScatterPass
pub mod GatherPass
pub mod PropagatePass
pub mod Passes
pub mod Back
pub mod Rounds
pub mod Sums
pub mod Holds
pub mod Operations
pub mod PassHolds
pub mod Run
pub mod ImageRun
pub mod Idle
