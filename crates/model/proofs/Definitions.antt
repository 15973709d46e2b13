-- The definitions of document 01, tied to what the other folders prove. `Ends` has the equivalence that document 01 asks to be proved: a place is an end
-- exactly if the accepting state is live there. `Live`: the passes give the live states, before any byte, after one from any set of states, and
-- after a text. `EndsList` and `TreeEnds`: a text has exactly one list of ends, and it can be computed.
pub mod Ends
pub mod Live
pub mod EndsList
pub mod TreeEnds
-- The edges without a letter, and those that take a byte, are the ways along the arcs that the proofs go over; all lead to the tree's states.
pub mod Free
pub mod Takes
pub mod Below
pub mod Along
