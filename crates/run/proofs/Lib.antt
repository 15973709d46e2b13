pub mod Laws
pub mod Image
