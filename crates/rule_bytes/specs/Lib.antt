-- Kinds: the kinds of the table. Places: what the readers' answers say.
pub mod Kinds
pub mod Places
