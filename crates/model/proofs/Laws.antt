-- Laws that every folder cites, and other crates, each stated once: tests, lists, runs of stores, bits, trees.
pub mod Bool
pub mod Lists
pub mod Each
pub mod Stores
pub mod Bits
pub mod Trees
