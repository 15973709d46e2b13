-- Sets: rows as sets of states. Origins: what reaches a state. Back: one byte back. Search: the latest start. Walk, Write: the states. Propose: the table.
pub mod Sets
pub mod Origins
pub mod Back
pub mod Search
pub mod Walk
pub mod Write
pub mod Propose
