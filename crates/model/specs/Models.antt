-- MODELS: what the code computes. Nothing here is believed; the theorems in proofs/ tie each to the definitions.
pub mod Reader
pub mod Places
pub mod Words
pub mod Run
pub mod Idle
pub mod Tokens
pub mod LayOut
pub mod Sections
pub mod Apart
pub mod Verdict
pub mod Leads
pub mod Spelling
