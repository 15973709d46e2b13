-- Says: what the public function promises. Work: what the parts write.
pub mod Says
pub mod Work
