-- Says: what the public function promises. Work: what its parts compute.
pub mod Says
pub mod Work
