pub mod Less
pub mod Sets
