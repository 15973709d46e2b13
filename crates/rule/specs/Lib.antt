-- Says: what the public function promises. The others: what the readers read and write.
pub mod Tokens
pub mod Parts
pub mod Groups
pub mod Says
