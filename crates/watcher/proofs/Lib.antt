-- Demands: the theorems over the contracts of build, read back and match; Watches: those over begin and step; Spellings: those over the check and the
-- proposer of spellings. Laws: what the proofs of the code cite.
pub mod Demands
pub mod Watches
pub mod Spellings
pub mod Laws
