-- Seen: what two words say of the sources ahead of each place.
pub mod Seen
