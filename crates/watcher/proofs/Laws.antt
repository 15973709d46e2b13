-- Build puts reading and storing together, match the check and the run; Ends says how many ends there can be.
pub mod Build
pub mod Match
pub mod Ends
